pub mod Swept
pub mod Opening
pub mod Closing
pub mod CallTheorems
pub mod CallExamples
pub mod Determined

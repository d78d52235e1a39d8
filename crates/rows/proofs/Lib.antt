pub mod Put
pub mod Holding
pub mod Fronting
pub mod Swapping
pub mod Adding
pub mod Loading
pub mod Emptying
pub mod Padding

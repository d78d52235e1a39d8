pub mod Loading
pub mod Running
pub mod Determined

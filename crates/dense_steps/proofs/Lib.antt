pub mod AreaSteps
pub mod Xoring
pub mod Clearing

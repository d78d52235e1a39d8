pub mod Evaluating
pub mod Meeting
pub mod Checking
pub mod Examples
pub mod Determined

pub mod Tidy
pub mod Units
pub mod Clearing
pub mod Ending
pub mod Running

pub mod Pictures
pub mod Lowest

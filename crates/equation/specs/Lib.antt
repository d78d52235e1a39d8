pub mod Increase
pub mod Merging
pub mod Sums

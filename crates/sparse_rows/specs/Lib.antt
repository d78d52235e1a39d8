pub mod Reduction
pub mod Loop
pub mod Reduce
pub mod Counts

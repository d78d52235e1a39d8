pub mod Bench
pub mod SumCounts

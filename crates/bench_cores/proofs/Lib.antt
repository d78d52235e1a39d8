pub mod Living
pub mod Counting
pub mod Stripping

pub mod Eliminate
pub mod Stairs
pub mod Areas

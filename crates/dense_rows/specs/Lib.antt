pub mod Bits
pub mod Rows
pub mod Steps
pub mod Rules
pub mod Fits
pub mod Areas

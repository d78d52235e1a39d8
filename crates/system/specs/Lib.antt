pub mod System
pub mod Fits
pub mod Lent

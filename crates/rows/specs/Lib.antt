pub mod Picture
pub mod Front
pub mod Padding

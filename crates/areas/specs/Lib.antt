pub mod Stretch
pub mod Rows
pub mod Segments

pub mod Stretch
pub mod Parts
pub mod Filling
pub mod Offsets
pub mod Rows
pub mod Segments
pub mod Cells

pub mod Laws
pub mod Threes
pub mod EdgeRows
pub mod Filling

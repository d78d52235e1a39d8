pub mod Eliminate
pub mod Cancelled
pub mod SparseCall

pub mod Lazy
pub mod Cancelled
pub mod Invariant
pub mod Description
pub mod Safe

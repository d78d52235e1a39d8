pub mod Bytes
pub mod File
pub mod Fitting
pub mod Forms
pub mod Kinds
pub mod Lent
pub mod Rows
pub mod Serving

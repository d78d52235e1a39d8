pub mod Digits
pub mod Said
pub mod Lining
pub mod Examples

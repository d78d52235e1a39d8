pub mod Judged
pub mod Lent
pub mod Lists
pub mod Ways

pub mod Texts
pub mod Theorems
pub mod Examples
pub mod PeelExample

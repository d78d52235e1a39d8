pub mod Equation
pub mod Span
pub mod Canonical
pub mod Ours
pub mod Result
pub mod NumberLists
pub mod Common
pub mod ByNumber

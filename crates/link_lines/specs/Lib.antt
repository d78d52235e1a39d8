pub mod Decimal
pub mod Lines
pub mod Outcomes
pub mod Text

pub mod Call
pub mod Engines

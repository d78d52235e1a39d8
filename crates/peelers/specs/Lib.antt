pub mod Run
pub mod Programs

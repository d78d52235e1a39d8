pub mod Area
pub mod Layout
pub mod Tables

pub mod Laying
pub mod Solving

pub mod Slow
pub mod SlowCall

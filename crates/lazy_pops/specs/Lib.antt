pub mod Step
pub mod Lowering
pub mod Laid
pub mod Writes
pub mod Pops
pub mod Idle
pub mod Adding

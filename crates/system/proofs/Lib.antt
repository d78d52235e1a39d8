pub mod Climbing
pub mod InOrder
pub mod Reading
pub mod Lowest
pub mod Soundness
pub mod SolverCalls
pub mod Examples
pub mod Determined

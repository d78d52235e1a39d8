pub mod Edges
pub mod Peel
pub mod Core
pub mod Ours
pub mod Machine
pub mod Report
pub mod Calls

pub mod Walk
pub mod Again
pub mod Lent
pub mod Loops
pub mod Shared

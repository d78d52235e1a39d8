pub mod ColumnsCleared
pub mod ReadingOff
pub mod SlowTheorems
pub mod Examples
pub mod Cleared

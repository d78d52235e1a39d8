pub mod LaidRows
pub mod Loading

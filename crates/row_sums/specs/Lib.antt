pub mod RowSum
pub mod AddFits

pub mod RowsCall

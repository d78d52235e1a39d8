pub mod ClearingColumns
pub mod ReadingPivots
pub mod Determined

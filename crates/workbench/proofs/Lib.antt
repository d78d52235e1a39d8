pub mod BySparse
pub mod ByLazy
pub mod ByPeeling
pub mod ByDense
pub mod BySum
pub mod Table
pub mod Counts

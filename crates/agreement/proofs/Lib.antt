pub mod Orders
pub mod OneTable
pub mod Examples
pub mod NoLazyLaw

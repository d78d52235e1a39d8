pub mod Rise
pub mod Turn
pub mod Gather
pub mod Settle
pub mod Telling
pub mod Meaning
pub mod Examples
pub mod Determined

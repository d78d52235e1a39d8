pub mod Answers
pub mod Numbers
pub mod Sizes
pub mod Calls
pub mod Report
pub mod Reported
pub mod Told

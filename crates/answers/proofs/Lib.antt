pub mod Rooms
pub mod Numbers
pub mod Told
pub mod Calls
pub mod Counts
pub mod Gate
pub mod Reported
pub mod Determined

pub mod Rooms
pub mod Ends
pub mod Gates

pub mod Turns
pub mod Values
pub mod Small
pub mod Rooms
pub mod Flags
pub mod Joined
pub mod Chunked
pub mod Acts

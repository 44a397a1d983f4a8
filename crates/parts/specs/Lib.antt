pub mod Parts
pub mod Flags
pub mod Joined
pub mod Acts
pub mod Statements

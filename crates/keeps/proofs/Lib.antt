pub mod Keeps
pub mod Moves
pub mod Solo

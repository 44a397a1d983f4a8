pub mod Solo
pub mod Keeps

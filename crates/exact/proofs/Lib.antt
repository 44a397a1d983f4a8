pub mod Passed
pub mod Solo
pub mod Proved

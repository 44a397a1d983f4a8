pub mod Acts
pub mod Numbers
pub mod Refusals

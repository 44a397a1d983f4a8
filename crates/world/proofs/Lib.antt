pub mod Determined
pub mod Words

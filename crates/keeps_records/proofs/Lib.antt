pub mod Shape
pub mod Records
pub mod Names
pub mod Words
pub mod Rows
pub mod Sleeping

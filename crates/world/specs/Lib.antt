pub mod Holds
pub mod World

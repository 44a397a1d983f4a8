pub mod Everywhere
pub mod Premise
pub mod Examples

pub mod Acts
pub mod Step

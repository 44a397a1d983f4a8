pub mod Part
pub mod Local

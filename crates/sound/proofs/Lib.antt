pub mod Determined
pub mod Examples
pub mod Holds
pub mod Ranges
pub mod Readings
pub mod Standing

pub mod Bits
pub mod Cond
pub mod Determined
pub mod Readings

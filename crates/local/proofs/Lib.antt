pub mod Told
pub mod Waking
pub mod Storing
pub mod Frame
pub mod Local
pub mod Happened

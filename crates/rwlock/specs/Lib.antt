pub mod RwLock
pub mod Positions

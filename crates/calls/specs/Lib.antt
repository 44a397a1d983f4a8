pub mod Calls
pub mod Events
pub mod Objects
pub mod Plans
pub mod Positions

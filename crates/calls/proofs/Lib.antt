pub mod Determined
pub mod Events
pub mod Laws
pub mod Objects

pub mod Determined
pub mod Laws
pub mod Part
pub mod Places
pub mod Search
pub mod Tidy

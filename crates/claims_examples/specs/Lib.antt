pub mod Machine
pub mod Lists
pub mod Cases

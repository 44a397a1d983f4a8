pub mod InPlace
pub mod Numbers
pub mod Run

pub mod Answers
pub mod Covered
pub mod Kept

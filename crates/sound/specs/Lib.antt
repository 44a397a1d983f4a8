pub mod Clauses
pub mod Ranges
pub mod Sound

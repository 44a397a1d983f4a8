pub mod Determined
pub mod Digits
pub mod Laid
pub mod Line
pub mod TallyLine
pub mod Transcript

pub mod Run
pub mod Solo

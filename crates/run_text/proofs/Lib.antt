pub mod Answers
pub mod Storing
pub mod Lines

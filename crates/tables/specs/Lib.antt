pub mod Rows
pub mod Lines
pub mod Steps
pub mod Runs
pub mod Sound
pub mod Meets
pub mod Decided
pub mod Local

pub mod Decisions
pub mod Reads

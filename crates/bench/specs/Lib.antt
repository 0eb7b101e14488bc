pub mod Changes
pub mod Entries
pub mod Turns

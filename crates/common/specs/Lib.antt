pub mod Benches
pub mod Worlds
pub mod Places
pub mod Updates
pub mod Checks
pub mod Lists
pub mod Counts

pub mod Tests
pub mod Updates
pub mod Benches
pub mod Worlds
pub mod Places
pub mod Sets
pub mod Checks
pub mod Counts

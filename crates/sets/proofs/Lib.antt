pub mod Numbers
pub mod Worlds

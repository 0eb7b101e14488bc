pub mod Sending
pub mod Stepped

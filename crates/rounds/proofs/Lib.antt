pub mod Hearing
pub mod Turning
pub mod Settled

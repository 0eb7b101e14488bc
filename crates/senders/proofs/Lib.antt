pub mod Kept
pub mod Seating
pub mod Going
pub mod Settled

-- Laws of this crate: stores, a number's digits, and writers.
pub mod Cuts
pub mod Digits
pub mod Writers

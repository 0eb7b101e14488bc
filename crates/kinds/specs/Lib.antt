pub mod Stand
pub mod Sizes
pub mod Refusals

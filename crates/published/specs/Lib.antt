pub mod Rounds
pub mod Proposals
pub mod Accepted
pub mod Refusals
pub mod History
pub mod Pause
pub mod Limited

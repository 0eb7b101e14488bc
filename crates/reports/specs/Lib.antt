pub mod Reported
pub mod RunReport
pub mod Cut
pub mod LedgerReport
pub mod Examples

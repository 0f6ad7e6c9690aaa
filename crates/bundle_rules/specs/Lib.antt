pub mod Findings
pub mod Claims
pub mod Counts
pub mod Names
pub mod Schedules
pub mod LockLimits

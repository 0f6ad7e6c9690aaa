pub mod Planning
pub mod Performing
pub mod Stepping
pub mod Alone
pub mod Working
pub mod WholeJobs
pub mod GoingOn

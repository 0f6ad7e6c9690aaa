pub mod Leaving
pub mod Reading
pub mod Ending
pub mod Stepping
pub mod Running
pub mod Keeping
pub mod Alone
pub mod WholeJobs

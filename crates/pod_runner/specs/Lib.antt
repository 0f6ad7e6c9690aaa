pub mod Running
pub mod RunningCode
pub mod Steps
pub mod Inside
pub mod WholeJobs

pub mod Whole
pub mod Submissions
pub mod Rounds
pub mod Fulls
pub mod Pods

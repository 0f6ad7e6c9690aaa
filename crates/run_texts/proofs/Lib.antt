pub mod Counted
pub mod Submitted
pub mod Told

pub mod Marks
pub mod Placed
pub mod Found
pub mod Stays
pub mod Begun
mod Told
mod Naming
pub mod Lasts
pub mod RunsOn
pub mod Begins
pub mod Follows
pub mod Halving
pub mod PutTask
pub mod Becoming
pub mod Followed
pub mod RunsBehind

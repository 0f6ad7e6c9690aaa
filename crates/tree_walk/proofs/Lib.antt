mod Calling
pub mod Dags
pub mod Groups
mod Hooking
mod Index
mod Planned
pub mod Rooms
mod Sums
pub mod Tasks
mod Walkable

pub mod Names
pub mod Parents
pub mod Positions
mod Marking
mod Gathering
pub mod Waiting
pub mod Spreading
pub mod Ancestry
pub mod Planned

pub mod Keys
mod Pieced
pub mod Stands
pub mod Tabled
pub mod Sums
pub mod Bucketed
pub mod Ranked
pub mod Places
pub mod Changes
mod Sought
pub mod Turns
pub mod Lines
pub mod Kept
pub mod Stored
pub mod Released
pub mod Events
pub mod Holders

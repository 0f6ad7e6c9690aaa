pub mod Cause
pub mod Counting
pub mod Inside
pub mod Outages
pub mod Plans
pub mod Stores
pub mod Supplies
pub mod Transfer

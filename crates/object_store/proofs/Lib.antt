pub mod Index
pub mod Keeping
pub mod KeyTests
pub mod Places
pub mod Rows
pub mod Seen
pub mod Shown
pub mod Versions

pub mod Given
pub mod InOrder
pub mod Reading
pub mod Told
pub mod Workflows

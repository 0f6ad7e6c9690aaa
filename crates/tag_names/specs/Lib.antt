pub mod Tags
pub mod Views
pub mod Spelling

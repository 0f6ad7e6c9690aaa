pub mod Adding
pub mod Sels

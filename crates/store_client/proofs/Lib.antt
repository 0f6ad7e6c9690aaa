pub mod Crossing
pub mod Faults
mod Kept
mod Lawful

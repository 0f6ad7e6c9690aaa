mod Positions
pub mod Bounded
pub mod Waiting

pub mod Rows
pub mod Suspensions
pub mod Tries
pub mod Turns

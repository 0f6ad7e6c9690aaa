pub mod Counts
mod Kids
mod Alone
mod Firsts
pub mod OfKind
pub mod Positions
mod Sums
pub mod Tellings
mod Found
pub mod Readings
mod Chunks
mod Listings
mod Begins
mod Inserts

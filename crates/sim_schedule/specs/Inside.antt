-- What speaks only of private code.
pub mod Submitting
pub mod Restings
pub mod Rosters
pub mod Jobs
pub mod Turns
pub mod Hands
pub mod Steps

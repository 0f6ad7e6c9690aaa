pub mod Lists
pub mod Places
pub mod Tickets
pub mod Steps
pub mod Seats
pub mod Inside

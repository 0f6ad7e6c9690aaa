pub mod Same
pub mod Tabled
pub mod Found
pub mod Readings

pub mod Keys
pub mod Tabled
pub mod Found

pub mod Kept
mod ShortNumbers

pub mod Counting
mod Members
mod Turns

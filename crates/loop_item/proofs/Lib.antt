pub mod AtPlace
pub mod Digits
pub mod Found
pub mod OneNumber
pub mod OneValue

pub mod BeginsWithNone
pub mod Bytes
pub mod IsWay
pub mod Names
pub mod NumberOf
pub mod Stops

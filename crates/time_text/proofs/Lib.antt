pub mod Delay
pub mod DurationOf
pub mod IsNumber
pub mod IsReading
pub mod Samples

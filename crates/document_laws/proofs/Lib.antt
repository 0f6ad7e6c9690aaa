mod Passes
mod Seconds
mod Kept
mod Schedules

pub mod Dues
pub mod Staying
pub mod Idle
pub mod Pods
pub mod Rest
mod WorkedRest
mod WorkedPods

pub mod Awaiting
mod Alike
pub mod Solving
mod Told
mod Suffice
mod Rows
mod Judged
pub mod Places
pub mod VerdictsAlike
pub mod Seeing
pub mod Ordered
pub mod StepSeen

-- What speaks only of private code.
pub mod Behind
pub mod Groups
pub mod OneItem
pub mod Resuming
pub mod Unseeing

-- What speaks only of private code.
pub mod Changes
pub mod Lines
pub mod Kept
pub mod Rows

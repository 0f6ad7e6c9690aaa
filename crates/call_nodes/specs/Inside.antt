-- What speaks only of private code.
pub mod Loops
pub mod Sources

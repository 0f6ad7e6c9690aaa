-- What speaks only of private code.
pub mod Firsts
pub mod Befores
pub mod Puts
pub mod Parts

-- What speaks only of private code.
pub mod Behind
pub mod Marks

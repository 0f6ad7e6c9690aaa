-- What speaks only of private code.
pub mod Rows
pub mod Shapes

-- What speaks only of private code.
pub mod Given
pub mod Params

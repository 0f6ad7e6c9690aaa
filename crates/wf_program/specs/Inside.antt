-- What speaks only of private code.
pub mod Ends

-- What speaks only of private functions.
pub mod Bytes
pub mod Parts
pub mod Reading

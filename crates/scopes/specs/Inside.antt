-- What speaks only of private code.
pub mod Entries
pub mod Layers
pub mod Lower

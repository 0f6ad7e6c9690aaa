-- What speaks only of private code.
pub mod Objects
pub mod Helds
pub mod Closing

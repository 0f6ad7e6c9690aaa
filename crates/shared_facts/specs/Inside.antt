-- What speaks only of this crate's private code.
pub mod Kinds
pub mod Keys
pub mod Tables
pub mod Reads

-- What speaks only of private code.
pub mod Ancestry
pub mod Parts
pub mod Pieces
pub mod Spelling
pub mod Tables
pub mod Views

pub mod Ancestors
pub mod Orders
pub mod Inside

-- What speaks only of private code.
pub mod Graphs
pub mod Walks
pub mod Rows

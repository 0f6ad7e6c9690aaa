-- What speaks only of private functions.
pub mod Counting
pub mod Trees

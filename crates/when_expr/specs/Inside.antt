-- What speaks of the crate's own code alone.
pub mod Operands
pub mod Postfix
pub mod Values

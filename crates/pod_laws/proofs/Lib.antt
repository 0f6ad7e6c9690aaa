pub mod Few
pub mod Fronts
pub mod OfKind
pub mod Asked
pub mod Locks
pub mod Ordered
pub mod Names
mod WorkedPremises

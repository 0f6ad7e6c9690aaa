mod Rows
pub mod OperandFacts
pub mod Postfixes
pub mod Words
pub mod Lists
pub mod Numberings
pub mod Evaluations
pub mod Peaks

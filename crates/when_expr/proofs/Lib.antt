mod Rows
pub mod Letters
pub mod OperandsHeld
pub mod OperandsTaken
pub mod OperandFacts
pub mod Postfixes
pub mod Peaks
pub mod Evaluations
pub mod Digits

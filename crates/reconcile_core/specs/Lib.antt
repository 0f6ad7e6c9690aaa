pub mod Answers
pub mod Hearing
pub mod Inside
pub mod Plans
pub mod Reconciled
pub mod Steps
pub mod Workers
pub mod WorkingCode

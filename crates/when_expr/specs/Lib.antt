pub mod Expression
pub mod Truth
pub mod Grammar
pub mod Meaning
pub mod Inside

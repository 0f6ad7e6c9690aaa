pub mod Histories
pub mod Inside
pub mod Lines
pub mod Readable

pub mod Bytes
pub mod Coding
pub mod Limits
pub mod Names
pub mod Results

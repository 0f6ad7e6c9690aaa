pub mod Chunked
pub mod Places

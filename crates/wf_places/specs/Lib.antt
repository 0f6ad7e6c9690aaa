pub mod Broken
pub mod Circles
pub mod Tags
pub mod Calls
pub mod Dags
pub mod Places
pub mod Inside

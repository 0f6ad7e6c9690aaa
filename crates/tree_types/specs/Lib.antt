pub mod Phases
pub mod Places
pub mod Journals
pub mod Texts

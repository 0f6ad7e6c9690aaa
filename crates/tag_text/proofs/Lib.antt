pub mod Cut
pub mod Parsed
pub mod Spells
pub mod Trimmed
pub mod WithoutSpaces

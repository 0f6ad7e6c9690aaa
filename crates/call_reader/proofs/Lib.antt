mod DependsMeaning
pub mod Kept

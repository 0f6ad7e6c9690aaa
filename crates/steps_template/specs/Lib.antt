pub mod Groups
pub mod Opened
pub use Rattle.meaning.specs.Steps

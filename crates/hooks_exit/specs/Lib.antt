pub mod Exits
pub use Rattle.meaning.specs.Calls
pub use Rattle.meaning.specs.Trees

pub mod Rows
pub use Rattle.meaning.specs.Lines
pub use Rattle.meaning.specs.Outputs
pub use Rattle.meaning.specs.Steps
pub use Rattle.meaning.specs.Calls
pub use Rattle.scopes.specs.Values

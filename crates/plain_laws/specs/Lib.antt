pub mod PlainTrees
pub use Rattle.meaning.specs.Plain
pub use Rattle.run_laws.specs.Fulls
pub use Rattle.run_laws.specs.Submissions

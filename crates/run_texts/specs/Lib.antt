pub mod RunTexts
pub mod Inside
pub use Rattle.law.specs.Contents
pub use Rattle.tree_types.specs.Texts
pub use Rattle.tree_print.specs.Summary
pub use Rattle.history_text.specs.Lines
pub use Rattle.run_laws.specs.Submissions

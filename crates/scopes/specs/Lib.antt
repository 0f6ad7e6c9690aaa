pub mod Inside
pub mod Substitution
pub mod Values
pub use Rattle.base_types.specs.Results
pub use Rattle.tag_text.specs.declared.part.Part
pub use Rattle.tree_types.specs.declared.node.Note
pub use Rattle.tree_types.specs.declared.outcome.Param

pub mod Summary
pub use Rattle.tree_types.specs.Texts

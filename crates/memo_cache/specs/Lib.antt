pub mod Inside
pub mod Saving
pub use Rattle.saves.specs.Saves
pub use Rattle.saves.specs.declared.Saved
pub use Rattle.tree_types.specs.declared.entry.HolderKey
pub use Rattle.tree_types.specs.declared.outcome.Outputs

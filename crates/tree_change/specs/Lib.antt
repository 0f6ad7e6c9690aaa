pub mod Changes
pub mod Entered
pub mod Inside
pub mod Open
pub use Rattle.locality.specs.Answered
pub use Rattle.meaning.specs.Trees
pub use Rattle.tree_state.specs.Finding
pub use Rattle.tree_walk.specs.Index

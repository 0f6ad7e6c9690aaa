pub mod Inside
pub use Rattle.meaning.specs.Lines
pub use Rattle.meaning.specs.Pods
pub use Rattle.meaning.specs.Suspends
pub use Rattle.meaning.specs.Calls
pub use Rattle.recorded.specs.Ends
pub use Rattle.tree_state.specs.Counting

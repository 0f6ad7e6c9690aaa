pub mod Index
pub mod Planned
pub mod Tasks
pub mod Walkable
pub mod Walking
pub use Rattle.wf_manifest.specs.Valid
pub use Rattle.meaning.specs.Calls
pub use Rattle.meaning.specs.Trees

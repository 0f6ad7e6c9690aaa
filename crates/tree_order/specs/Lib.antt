pub mod Order
pub use Rattle.meaning.specs.Answers
pub use Rattle.meaning.specs.Trees
pub use Rattle.tree_types.specs.declared.node.Node
pub use Rattle.wf_manifest.specs.declared.manifest.Manifest

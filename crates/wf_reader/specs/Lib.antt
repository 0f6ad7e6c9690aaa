pub mod Limits
pub mod Workflows
pub mod Short
pub use Rattle.field_kinds.specs.Reading
pub use Rattle.field_kinds.specs.Refusing
pub use Rattle.wf_manifest.specs.declared.manifest.Manifest

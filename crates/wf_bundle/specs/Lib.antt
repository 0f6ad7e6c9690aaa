pub mod Documents
pub mod Outcomes
pub mod Inside
pub use Rattle.wf_manifest.specs.Valid
pub use Rattle.bundle_rules.specs.Findings

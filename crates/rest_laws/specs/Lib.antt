pub mod Rest
pub mod Pods
pub use Rattle.run_laws.specs.Whole

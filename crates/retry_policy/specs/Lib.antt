pub mod Attempts
pub use Rattle.meaning.specs.Pods

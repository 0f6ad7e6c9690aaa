pub mod Durations
pub mod Instants
pub use Rattle.base_types.specs.Limits

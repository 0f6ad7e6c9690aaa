pub mod Draws
pub mod Bundles
pub mod Inside
pub use Rattle.base_types.specs.Limits

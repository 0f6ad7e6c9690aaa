pub mod Inside
pub mod Names
pub use Rattle.base_types.specs.Bytes

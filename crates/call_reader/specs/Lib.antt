pub mod Tags
pub mod Words
pub mod Calls
pub use Rattle.field_kinds.specs.Reading
pub use Rattle.field_kinds.specs.Refusing

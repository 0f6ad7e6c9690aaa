pub mod Limits
pub mod Names
pub mod Texts
pub mod Locks
pub mod Templates
pub use Rattle.field_kinds.specs.Reading
pub use Rattle.field_kinds.specs.Refusing

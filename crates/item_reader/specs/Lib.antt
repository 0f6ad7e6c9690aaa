pub mod ConfigMaps
pub mod PodOutcomes
pub mod Commands
pub mod Schedules
pub mod Items
pub use Rattle.field_kinds.specs.Reading
pub use Rattle.field_kinds.specs.Refusing

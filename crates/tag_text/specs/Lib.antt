pub mod Parts
pub mod Pieces
pub mod Spelling
pub use Rattle.base_types.specs.Bytes

pub mod Suspension
pub use Rattle.meaning.specs.Suspends

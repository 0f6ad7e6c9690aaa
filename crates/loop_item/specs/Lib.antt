pub mod ItemAt
pub use Rattle.fanout.specs.Items

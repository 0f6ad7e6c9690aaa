pub mod Order
pub mod Plans
pub mod Inside
pub use Rattle.task_order.specs.Orders
pub use Rattle.wf_manifest.specs.Valid
pub use Rattle.meaning.specs.Dags

pub mod Boards
pub mod Turns
pub mod Ends
pub mod Inside
pub use Rattle.dag_plan.specs.Plans
pub use Rattle.meaning.specs.Dags

pub mod Inside
pub mod Sweeping
pub mod HandCode
pub mod Simulating
pub use Rattle.document_laws.specs.Schedules
pub use Rattle.next_step.specs.Plays
pub use Rattle.next_step.specs.Ticks
pub use Rattle.run_laws.specs.Submissions

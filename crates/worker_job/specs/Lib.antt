pub mod Inside
pub mod JobCode
pub mod Jobs
pub mod Readings
pub mod Told
pub use Rattle.next_step.specs.Views
pub use Rattle.next_step.specs.Next
pub use Rattle.next_step.specs.Replies

pub mod Each
pub mod FirstForm

pub mod Command
pub mod Orders

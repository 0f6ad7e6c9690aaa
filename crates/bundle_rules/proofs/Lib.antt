mod Commands
mod Items
mod NameAdded
mod Over

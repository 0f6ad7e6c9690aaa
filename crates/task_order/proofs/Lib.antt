pub mod Among
mod NameLists
mod Graphs
pub mod Ranks
mod Walks
mod Goings
mod Orders
mod Bits
mod Reached
mod Told
mod Steps
mod Mapped

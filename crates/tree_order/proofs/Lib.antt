pub mod Paths
pub mod Compared
pub mod Nodes

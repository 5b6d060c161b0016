pub mod Lists
pub mod Paths
pub mod Nodes
pub mod Table

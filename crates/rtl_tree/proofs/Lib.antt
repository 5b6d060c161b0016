pub mod AlikeTrees
pub mod Equality
pub mod NameLists
mod FoundNames
pub mod Pairs
pub mod TreeDepth

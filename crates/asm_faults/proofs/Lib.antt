pub mod LabelPlaces
pub mod RowFaults
pub mod LineRules
pub mod Reached
pub mod Blank
pub mod Judged
pub mod NameSets

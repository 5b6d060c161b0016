pub mod Alike
pub mod RowLines

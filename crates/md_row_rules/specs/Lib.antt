pub mod RowRules
pub mod Goods

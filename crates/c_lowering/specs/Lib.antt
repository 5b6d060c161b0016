pub mod Lowering
pub mod Holding
pub mod Law

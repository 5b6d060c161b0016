pub mod Standing
pub mod Tables
pub mod Blocks
pub mod Carrying

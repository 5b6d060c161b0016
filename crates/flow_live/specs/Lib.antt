pub mod Dead
pub mod Rows
pub mod Walks
pub mod Settled
pub mod Tables

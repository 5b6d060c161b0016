pub mod Areas
pub mod Assigned
pub mod Ready
pub mod Working
pub mod Storages
pub mod Stored

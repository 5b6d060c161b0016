pub mod Filled
pub mod Made
pub mod Starting
pub mod Texts
pub mod Loaded
pub mod Joined

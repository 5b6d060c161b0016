pub mod Reading
pub mod Storing
pub mod Making
pub mod Turning

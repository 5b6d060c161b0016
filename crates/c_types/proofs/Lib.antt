pub mod Steps
pub mod Answering
pub mod Bodies
pub mod Wholes

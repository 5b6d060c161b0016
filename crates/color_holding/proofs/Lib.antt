pub mod Members
pub mod Bytes
pub mod Renamed
pub mod Transfers
pub mod Bodies

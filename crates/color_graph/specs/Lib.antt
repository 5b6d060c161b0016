pub mod Sharing
pub mod Meeting
pub mod Seats

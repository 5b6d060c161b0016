pub mod Rooms
pub mod Rep
pub mod Temporaries

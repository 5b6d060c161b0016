pub mod Statics
pub mod Entering
pub mod Loading
pub mod Running
pub mod Returning
pub mod Whole

pub mod Doing
pub mod Going
pub mod Keeping
pub mod Covered
pub mod Targets
pub mod Conditions

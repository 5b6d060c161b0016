pub mod TextLines
pub mod Places
pub mod Rules
pub mod Programs
pub mod Law

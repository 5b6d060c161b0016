pub mod Classes
pub mod Accepted
pub mod Printed
pub mod Growing
pub mod LineRead

pub mod Positions
pub mod Table
pub mod Roles
pub mod Binding
pub mod Covering

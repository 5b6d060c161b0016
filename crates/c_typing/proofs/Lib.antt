pub mod First
pub mod Trees
pub mod Walks
pub mod Programs

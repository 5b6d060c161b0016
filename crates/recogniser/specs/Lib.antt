pub mod Choices
pub mod Recognising
pub mod Searching
pub mod Laws

pub mod LabelLines
pub mod Membership
pub mod Listing
pub mod NamesLeft

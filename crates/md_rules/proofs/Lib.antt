pub mod Lists
pub mod Keys
pub mod TextSlots
pub mod FirstBroken
pub mod RuleOrder
pub mod HeadingLines

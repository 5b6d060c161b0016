pub mod Keywords
pub mod ClassNames
pub mod Bars
pub mod Refusals
pub mod Formless
pub mod FirstRules

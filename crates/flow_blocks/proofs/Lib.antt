pub mod JumpLabels
pub mod FirstLabels
pub mod Previous

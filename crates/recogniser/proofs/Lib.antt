mod Order
mod Ways
mod Reached
mod Doing
pub mod FirstBinding
mod BitsBelow
mod Known
mod SoundRows
mod Descriptions
mod FirstInstance
mod Forms
mod Determined
mod Compared
mod OneFirst

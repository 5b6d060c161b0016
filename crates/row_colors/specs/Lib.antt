pub mod Spilling
pub mod Calm
pub mod Registers

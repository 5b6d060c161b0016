pub mod Spilling
pub mod Cores
pub mod Testing
pub mod Calm
pub mod Registers

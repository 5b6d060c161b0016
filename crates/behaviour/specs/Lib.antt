pub mod Behaviour
pub mod Run
pub mod Steps
pub mod Laws
pub mod Counterexamples
pub mod Examples

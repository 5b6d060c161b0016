pub mod Law
pub mod Standing
pub mod Sound

mod Made
mod Proper
pub mod Numbered
mod Units

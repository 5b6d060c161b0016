pub mod Numbers
pub mod Rules
pub mod Normal
pub mod Transfers

pub mod Composing
mod Covering
mod Putting
mod Places
mod Labels
mod Numbers
mod Built
mod Operations

mod Places
mod Blocks
mod Example

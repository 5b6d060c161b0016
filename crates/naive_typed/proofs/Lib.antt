mod Nodes
mod Judged
mod Walked
mod Headings
mod Programs
mod Names

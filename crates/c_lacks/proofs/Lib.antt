mod Sets
mod Usable
mod Present
mod Telling

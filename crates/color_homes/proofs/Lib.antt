mod Lists
mod AtHome
mod Registers
mod Standing
mod Homes
mod Renaming
mod Facts

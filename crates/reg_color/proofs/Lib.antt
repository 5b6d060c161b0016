mod Bodies
mod Endings
mod Premises
mod Whole

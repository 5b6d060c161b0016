mod Constants
mod Regular
mod Fits
mod Walked
mod Programs

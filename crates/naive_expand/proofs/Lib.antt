mod Lists
mod Numbering
mod Appending
mod Codes
mod Whole

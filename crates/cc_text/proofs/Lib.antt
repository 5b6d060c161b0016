mod Judging
mod Exclusive

mod Bitwise
mod Apart
mod Falling
mod Meetings
mod Greedily

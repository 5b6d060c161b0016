mod Lengths
mod Bytes
mod Placing
mod Pushing
mod Room
mod WorkedObjects

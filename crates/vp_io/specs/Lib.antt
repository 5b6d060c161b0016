pub mod Codes
pub mod Contents
pub mod Counts
pub mod CountsFit
pub mod Files
pub mod MemoryFiles
pub mod MemorySink
pub mod MemorySource

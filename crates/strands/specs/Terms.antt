pub mod Room
pub mod Reads

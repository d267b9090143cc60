pub mod Bytes
pub mod Strand
pub mod Joined
pub mod Terms

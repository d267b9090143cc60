pub mod Options
pub mod Checks
pub mod Mask
pub mod Buffers
pub mod Call
pub mod Strand
pub mod Filling
pub mod Terms

pub mod Value
pub mod Arithmetic
pub mod Binary64
pub mod Terms

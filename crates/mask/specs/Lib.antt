pub mod Mask
pub mod Lent
pub mod Terms

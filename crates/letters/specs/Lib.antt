pub mod Code
pub mod Place
pub mod Gc
pub mod Rna
pub mod Terms

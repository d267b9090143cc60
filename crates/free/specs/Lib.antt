pub mod Free
pub mod Terms

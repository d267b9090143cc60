pub mod Run
pub mod Terms

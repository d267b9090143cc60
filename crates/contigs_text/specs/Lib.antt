pub mod Text
pub mod Terms

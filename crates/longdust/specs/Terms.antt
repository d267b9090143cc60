pub mod Inner
pub mod Alone

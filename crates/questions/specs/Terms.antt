pub mod Found
pub mod Walked

pub mod Setting
pub mod Filling
pub mod Theorems

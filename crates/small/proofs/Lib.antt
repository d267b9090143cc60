pub mod Profile
pub mod Bytes
pub mod Filling
pub mod Repeating
pub mod Runs
pub mod Theorems
pub mod Examples

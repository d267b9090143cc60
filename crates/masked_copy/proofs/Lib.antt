pub mod Copying
pub mod Theorems
pub mod Examples

pub mod Close
pub mod Horner
pub mod Parts
pub mod Split
pub mod Sums
pub mod Bound
pub mod Theorems
pub mod Examples

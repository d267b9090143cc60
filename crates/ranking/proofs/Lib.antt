pub mod Counting
pub mod Frequent
pub mod Parts
pub mod Listing

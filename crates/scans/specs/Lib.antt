pub mod Setup
pub mod Counts
pub mod Scans
pub mod Score
pub mod Range
pub mod Judged
pub mod Terms

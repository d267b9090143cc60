pub mod Step
pub mod ScanFind
pub mod Dropping
pub mod Terms

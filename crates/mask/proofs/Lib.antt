pub mod Masks
pub mod Marking
pub mod Strands
pub mod Dropping

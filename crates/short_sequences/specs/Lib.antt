pub mod Sequences
pub mod Tallies
pub mod Run
pub mod Terms

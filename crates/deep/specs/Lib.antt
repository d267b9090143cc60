pub mod Scores
pub mod Terms

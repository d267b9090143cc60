pub mod Lines
pub mod Entries
pub mod Held
pub mod Sums
pub mod Outcome
pub mod Terms

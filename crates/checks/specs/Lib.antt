pub mod Checks
pub mod Tests
pub mod Refusal
pub mod Sequence
pub mod Terms

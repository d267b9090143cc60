pub mod Answers
pub mod Batch
pub mod Usual
pub mod Promised
pub mod Terms

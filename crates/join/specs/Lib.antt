pub mod Stretches
pub mod Joining
pub mod Promised
pub mod Terms

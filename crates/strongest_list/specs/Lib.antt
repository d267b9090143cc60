pub mod Stretches
pub mod Checks
pub mod Call
pub mod Mirrored
pub mod Terms

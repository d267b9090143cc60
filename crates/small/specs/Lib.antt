pub mod Profile
pub mod Bytes
pub mod Call
pub mod Run
pub mod Terms

pub mod Certified
pub mod Carry
pub mod Search
pub mod Fails

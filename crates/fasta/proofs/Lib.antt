pub mod Lengths
pub mod Lines
pub mod Stepping
pub mod Walk
pub mod Kept
pub mod Joined
pub mod Examples

pub mod Lines
pub mod Contents
pub mod Steps
pub mod Walk
pub mod Terms

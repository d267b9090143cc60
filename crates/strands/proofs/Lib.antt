pub mod Reading
pub mod Called
pub mod Sent
pub mod Same
pub mod Merged
pub mod Written
pub mod Outcomes

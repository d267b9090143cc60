pub mod Like
pub mod KnownCounts
pub mod Entering
pub mod Searching
pub mod Finding

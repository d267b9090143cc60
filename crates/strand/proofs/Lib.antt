pub mod KnownLow
pub mod ReadingOn
pub mod Running
pub mod Foretelling

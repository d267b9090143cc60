pub mod ReadingOn
pub mod LowStarts
pub mod Running

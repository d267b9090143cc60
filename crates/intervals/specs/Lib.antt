pub mod Interval
pub mod Save
pub mod Merge
pub mod Marks
pub mod Out
pub mod Terms

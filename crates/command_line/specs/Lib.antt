pub mod Number
pub mod Size
pub mod Score
pub mod Kind
pub mod Held
pub mod Plan

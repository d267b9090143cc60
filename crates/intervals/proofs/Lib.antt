mod Pushing
pub mod Order
pub mod Joining
pub mod Shape
pub mod Covered
pub mod Backward
pub mod Unique
pub mod Theorems
pub mod Marks
pub mod Saving
pub mod Examples
pub mod Counted
pub mod Lengths
pub mod Slice
pub mod Usual
pub mod SaveSteps
pub mod PickSteps
pub mod MergeSteps

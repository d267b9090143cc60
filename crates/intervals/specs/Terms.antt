pub mod Pick
pub mod Bounds
pub mod Leading

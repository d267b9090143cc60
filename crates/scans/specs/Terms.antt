pub mod Numbers
pub mod Counted
pub mod Units
pub mod Shape
pub mod Window
pub mod Parts
pub mod Run

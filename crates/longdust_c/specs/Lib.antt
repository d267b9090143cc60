pub mod Numbers
pub mod Exported

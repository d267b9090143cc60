pub mod Called
pub mod First

pub mod MaskLines
pub mod Record
pub mod First
pub mod Starting
pub mod Plain
pub mod Single
pub mod Alone
pub mod Examples

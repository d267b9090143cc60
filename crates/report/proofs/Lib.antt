pub mod Letters
pub mod Decimal
pub mod Writing
pub mod Lines
pub mod Examples

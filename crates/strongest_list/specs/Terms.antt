pub mod Codes
pub mod Best
pub mod Tiles
pub mod Blocks
pub mod Linked
pub mod Rows
pub mod Listed

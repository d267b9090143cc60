pub mod Wholes
pub mod Blocks
pub mod Cells
pub mod Told
pub mod Short
pub mod Found

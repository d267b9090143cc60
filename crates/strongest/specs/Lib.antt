pub mod Strongest
pub mod Before
pub mod Checks
pub mod Call
pub mod Terms

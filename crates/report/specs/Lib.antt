pub mod Ascii
pub mod Text
pub mod Letters
pub mod Written
pub mod Adds
pub mod Fits
pub mod Held

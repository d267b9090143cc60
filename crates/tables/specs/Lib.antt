pub mod Countdown
pub mod Ln
pub mod Exp
pub mod Density
pub mod F
pub mod Tables
pub mod Series
pub mod Logarithm

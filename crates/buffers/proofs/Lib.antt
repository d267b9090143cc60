pub mod At
pub mod Filling
pub mod Tabulate
pub mod Lent
pub mod Put

pub mod Run
pub mod Printed
pub mod Room

pub mod Bytes
pub mod Passing
pub mod Next
pub mod Refusing

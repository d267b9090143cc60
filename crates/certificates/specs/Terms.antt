pub mod Made
pub mod Low

pub mod Copy
pub mod Upper

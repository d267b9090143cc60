pub mod Fill
pub mod Free

pub mod Text
pub mod Units
pub mod Kmers
pub mod Ranking
pub mod Terms

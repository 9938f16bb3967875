pub mod Ranks
pub mod Cores

pub mod Ranking
pub mod Cutting
pub mod Keys

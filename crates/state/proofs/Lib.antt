pub mod Foreign
pub mod Pass
pub mod Outcomes
pub mod Ticking
pub mod Logs
pub mod TwoRuns

pub mod Outcomes
pub mod Runs

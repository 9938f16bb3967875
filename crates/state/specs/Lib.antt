pub mod State
pub mod Operations
pub mod Steps
pub mod TwoRuns

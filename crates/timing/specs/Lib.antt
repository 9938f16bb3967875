pub mod Tasks
pub mod Calls
pub mod Form
pub mod OnTime
pub mod Serving
pub mod Strokes
pub mod TwoRuns

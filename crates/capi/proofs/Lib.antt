pub mod Answers
pub mod Planned
pub mod Moved

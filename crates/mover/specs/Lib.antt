pub mod Moved
pub mod Answers
pub mod Meaning
pub mod Steps

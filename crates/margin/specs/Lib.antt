pub mod Margin
pub mod Answers
pub mod Exact
pub mod Steps

pub mod Constructions
pub mod Meaning
pub mod Passing
pub mod Answers
pub mod Steps

pub mod FirstFit
pub mod Sheet
pub mod Plan
pub mod Steps

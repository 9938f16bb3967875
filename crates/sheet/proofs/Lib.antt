pub mod Past
pub mod Options
pub mod Scans
pub mod Ranges
pub mod Exactly
pub mod Parts

pub mod Order
pub mod Renamed
pub mod Steps

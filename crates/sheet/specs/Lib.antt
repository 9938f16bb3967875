pub mod Refusals
pub mod Table
pub mod Ranges
pub mod Numbers
pub mod Records
pub mod Views

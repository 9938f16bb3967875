pub mod Bytes
pub mod Row
pub mod OnTime

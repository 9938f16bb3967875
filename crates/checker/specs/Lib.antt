pub mod Tests
pub mod Rules
pub mod Verdict
pub mod Accepted
pub mod Steps
pub mod Places
pub mod Periodic

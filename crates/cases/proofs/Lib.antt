pub mod Ways
pub mod Rejected
pub mod Stopping
pub mod Learners

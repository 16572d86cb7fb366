pub mod Read
pub mod Scan
pub mod Coding

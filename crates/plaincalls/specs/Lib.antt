pub mod Written
pub mod Passes
pub mod Collecting

pub mod Tally
pub mod Taking

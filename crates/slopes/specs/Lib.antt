pub mod Places
pub mod Slopes
pub mod Counting

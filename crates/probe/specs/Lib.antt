pub mod Encoded
pub mod Groups
pub mod Batches
pub mod Passes

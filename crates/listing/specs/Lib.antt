pub mod Sizes
pub mod Session
pub mod Memory
pub mod Listing
pub mod Progress

pub mod Sizes
pub mod Stores
pub mod Programming
pub mod Around
pub mod Naming

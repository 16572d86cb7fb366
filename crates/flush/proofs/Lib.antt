pub mod Sorted
pub mod Checking
pub mod Flushing
pub mod Unmarked

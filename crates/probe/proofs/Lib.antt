pub mod Bytes
pub mod Batches
pub mod Conditions
pub mod Filling
pub mod Masks
pub mod Insertion
pub mod Passing

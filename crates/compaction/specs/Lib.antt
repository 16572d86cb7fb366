pub mod Levels
pub mod Order
pub mod Adding
pub mod Ordering
pub mod Passing

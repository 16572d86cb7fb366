pub mod Sizes
pub mod Order
pub mod Digits
pub mod Keys

pub mod Reading
pub mod Shaped
pub mod Bits
pub mod Ran
pub mod Tally

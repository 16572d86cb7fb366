pub mod Regions
pub mod Reading
pub mod Outside
pub mod Ran
pub mod Shaped
pub mod Telling

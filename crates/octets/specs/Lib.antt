pub mod Little
pub mod Slots

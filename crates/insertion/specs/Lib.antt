pub mod Flat
pub mod Slots
pub mod InsertSlots
pub mod Shown
pub mod Ready
pub mod Turns
pub mod Searches

pub mod Signed
pub mod Stores
pub mod Same
pub mod ReadWrite
pub mod Moves
pub mod SlotLaws

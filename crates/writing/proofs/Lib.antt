pub mod Places
pub mod RunsEnd
pub mod Rooms
pub mod Passing
pub mod Learned
pub mod Written

pub mod Layout
pub mod Cutting
pub mod Reading
pub mod Held
pub mod Answers
pub mod Checking

pub mod Coding
pub mod Owners
pub mod View
pub mod Edits

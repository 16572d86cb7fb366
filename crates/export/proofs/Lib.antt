pub mod Lengths
pub mod Unpacking
pub mod Answered

pub mod Numbers
pub mod Fields
pub mod Lines
pub mod Texts
pub mod Decimals
pub mod Integers
pub mod Examples

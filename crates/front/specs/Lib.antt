pub mod Read
pub mod Tables
pub mod Reading
pub mod Formatting

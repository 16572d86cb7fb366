pub mod Script
pub mod Printed
pub mod Reading

pub mod Table
pub mod Calls
pub mod Machine
pub mod Engines

pub mod Handed
pub mod Taking

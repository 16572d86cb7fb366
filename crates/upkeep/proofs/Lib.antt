pub mod Blank
pub mod Emptied
pub mod Filling
pub mod Formatting
pub mod Compacting
pub mod Discarding

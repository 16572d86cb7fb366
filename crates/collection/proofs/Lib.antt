pub mod Judging
pub mod Gathering
pub mod Tallying
pub mod Moved
pub mod Clearing
pub mod Ending

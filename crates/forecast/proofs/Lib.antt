pub mod Entering
pub mod Putting
pub mod Foretelling
pub mod Nearing

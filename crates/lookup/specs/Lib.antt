pub mod Agreeing
pub mod Passes
pub mod WhyEntries

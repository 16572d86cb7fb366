pub mod Demand3
pub mod Swapping
pub mod Explaining
pub mod PlainDemand3
pub mod EnginesAgree

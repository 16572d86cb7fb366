pub mod Within
pub mod HeadBytes
pub mod Tables
pub mod CountsRead
pub mod Scanning
pub mod Bits
pub mod Filling

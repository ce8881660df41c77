pub mod Core
pub mod Ranges

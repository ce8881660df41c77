pub mod Cases
pub mod Pinning
pub mod Tests

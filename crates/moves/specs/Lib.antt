pub mod Moves
pub mod Ranges
pub mod MovesLaws
pub mod Words

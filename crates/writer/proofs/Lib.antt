pub mod Loops
pub mod Drawing
pub mod Answers
pub mod Pinned

pub mod Rows
pub mod Pinned

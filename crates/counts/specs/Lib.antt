pub mod Numbers
pub mod Counts
pub mod CountsLaws

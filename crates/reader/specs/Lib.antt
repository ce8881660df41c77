pub mod Reader
pub mod Ranges
pub mod RangesLaws

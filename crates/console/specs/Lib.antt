pub mod GapSums
pub mod Gaps

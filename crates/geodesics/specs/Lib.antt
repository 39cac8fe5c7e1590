pub mod Fitting
pub mod FourRulers
pub mod Least
pub mod Unique
pub mod Transform
pub mod GapSums
pub mod Between
pub mod Needed

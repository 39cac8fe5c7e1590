pub mod Fronts
pub mod GapSums
pub mod Heights

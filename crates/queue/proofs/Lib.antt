pub mod Sifting
pub mod Parts

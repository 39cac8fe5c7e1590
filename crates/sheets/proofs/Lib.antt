pub mod Figures
pub mod Keywords
pub mod Onward
pub mod Pairs
pub mod Parting
pub mod Opened

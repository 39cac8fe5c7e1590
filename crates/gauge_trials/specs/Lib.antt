pub mod Terraces
pub mod TerraceLaw
pub mod Ledges
pub mod LedgeLaw
pub mod Descents

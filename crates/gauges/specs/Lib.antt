pub mod Refusals
pub mod Steps
pub mod Meanings
pub mod Rulers
pub mod Layers
pub mod Reverses
pub mod LayerLaw
pub mod RulerLaw

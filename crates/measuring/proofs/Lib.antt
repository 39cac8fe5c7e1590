pub mod Sums
pub mod Before
pub mod Ranked
pub mod Tracks
pub mod Places
pub mod Maps
pub mod Turns

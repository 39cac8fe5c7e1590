pub mod Refusals
pub mod Headers
pub mod Edits
pub mod Maps
pub mod Readings
pub mod Walks

pub mod Lines
pub mod Readers
pub mod Reading
pub mod Refusals
pub mod Sizes
pub mod Tokens
pub mod Words

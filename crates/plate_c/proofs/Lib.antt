pub mod Handing
pub mod Returned
pub mod Sizes
pub mod Steps
pub mod Writing

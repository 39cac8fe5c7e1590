pub mod Outcomes
pub mod Groups
pub mod Sizes
pub mod Tables
pub mod Records

pub mod Kinds
pub mod Wholes
pub mod Counteds
pub mod CountedLaws
pub mod WholeLaws

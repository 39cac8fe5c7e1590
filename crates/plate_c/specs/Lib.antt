pub mod Answers
pub mod Lent
pub mod Loans
pub mod Tables

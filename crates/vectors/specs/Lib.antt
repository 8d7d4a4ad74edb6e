pub mod Answers
pub mod Looks
pub mod Tallies

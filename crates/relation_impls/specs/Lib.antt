pub mod Overlaps
pub mod Telling
pub mod Answers

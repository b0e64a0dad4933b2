pub mod Overlaps
pub mod Bounds
pub mod Headers
pub mod Answers

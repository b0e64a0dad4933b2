pub mod Pushes
pub mod Kept

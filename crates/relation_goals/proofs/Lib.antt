pub mod Constrained
pub mod Entering

pub mod Atoms
pub mod OverItems

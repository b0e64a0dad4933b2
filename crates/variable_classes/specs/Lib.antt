pub mod Roots
pub mod Rings

pub mod Carried
pub mod Stated

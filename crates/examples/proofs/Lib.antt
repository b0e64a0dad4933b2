pub mod Headers
pub mod Ranked

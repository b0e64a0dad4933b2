pub mod Pulling
pub mod Finding

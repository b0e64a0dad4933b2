pub mod Headers
pub mod Puts
pub mod Ranked

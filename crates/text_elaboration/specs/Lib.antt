pub mod Pulls
pub mod Stating

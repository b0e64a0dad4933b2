pub mod Assumptions
pub mod Assuming

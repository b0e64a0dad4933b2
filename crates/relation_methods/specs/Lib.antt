pub mod Keyed
pub mod Methods

pub mod Alone
pub mod Arguments
pub mod Bivariance
pub mod Following
pub mod Keyed
pub mod Rounds
pub mod Terms

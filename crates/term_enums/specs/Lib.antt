pub mod Variances
pub mod Polarities
pub mod Words
pub mod Hashing

pub mod Following
pub mod Bounds
pub mod Meeting
pub mod Opening

pub mod Keeping
pub mod Stacks
pub mod Unseen

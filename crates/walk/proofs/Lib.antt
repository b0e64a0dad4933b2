pub mod Walking
pub mod Placing
mod Pulling
pub mod Positioning

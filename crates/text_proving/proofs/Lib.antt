mod Closing
mod Serving
pub mod Making
pub mod Implying
mod Opening

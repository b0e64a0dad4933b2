pub mod Yielding
pub mod Pulled
pub mod Taking
pub mod Passing
pub mod Finding

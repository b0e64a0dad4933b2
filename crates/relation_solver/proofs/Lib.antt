pub mod Opened
pub mod Alike
pub mod Shadows
pub mod Solving
pub mod Deriving
pub mod Bodies
pub mod Going

pub mod Grows
pub mod Beside
pub mod SubRoots
pub mod Writing
pub mod Rows
pub mod Reading

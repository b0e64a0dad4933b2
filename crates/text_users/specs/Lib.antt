pub mod Fixed
pub mod Asked
pub mod Found
pub mod Facts
pub mod Solved
pub mod Rows

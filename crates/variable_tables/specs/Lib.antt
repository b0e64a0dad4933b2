pub mod Tabled
pub mod Rooted
pub mod Variables
pub mod Numbers
pub mod Tables

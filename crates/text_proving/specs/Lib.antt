pub mod Closed
pub mod Made
pub mod Implied
pub mod Asked
pub mod Texts
pub mod Sources
pub mod Open

pub mod Components
pub mod Choosing

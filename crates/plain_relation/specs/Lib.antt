pub mod Plain
pub mod Concrete

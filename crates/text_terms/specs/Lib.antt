pub mod Texts
pub mod Printed
pub mod Terms
pub mod Built
pub mod Letters

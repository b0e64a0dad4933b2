pub mod Errors
pub mod Fronts
pub mod Mapped
pub mod Sorted

pub mod DiagInfo
pub mod PartErrors
pub mod PartPlaces
pub mod Patterns

pub mod DiagInfo
pub mod PartErrors

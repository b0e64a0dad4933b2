pub mod Anonymous
pub mod UsedParts
pub mod Renamings

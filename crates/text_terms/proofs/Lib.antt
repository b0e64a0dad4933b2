pub mod BuildingLemmas
pub mod ListLemmas
pub mod Parts
mod LetterLemmas

pub mod UsedPlaces
pub mod Anonymizing
mod UsedVars
mod UsedTrees
mod UsedParts
pub mod Renamings
mod Within

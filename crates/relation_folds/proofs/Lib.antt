pub mod Visiting
pub mod Errors
pub mod Depths
pub mod Found
pub mod Remembering
pub mod Searching
pub mod Testing
pub mod Folding
pub mod Members
pub mod Shifting
mod Unmoved
pub mod Arguments
pub mod Entering
pub mod Fielding
pub mod FieldFolding
pub mod ClauseLists
pub mod Lists

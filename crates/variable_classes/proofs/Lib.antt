pub mod Leading
pub mod Merging
pub mod Growing
pub mod Rounds
pub mod Rooted

pub mod Stays
pub mod Once
pub mod Sorted
pub mod Lists
pub mod Binders
pub mod Members
pub mod Parts
pub mod Orders
pub mod Same
pub mod Widths
pub mod Predicates
pub mod Fields
pub mod Clauses
pub mod Flags
mod Closures
pub mod Edits
mod Params
pub mod Equality
pub mod Paths
pub mod Erasing

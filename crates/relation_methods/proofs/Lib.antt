pub mod Merging
pub mod Indexing
pub mod Finding

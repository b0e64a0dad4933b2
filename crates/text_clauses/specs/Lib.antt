pub mod Clauses
pub mod Made
pub mod Texts

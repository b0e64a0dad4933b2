pub mod RefCtxt
pub mod Remembering
pub mod Resolvers
pub mod Generalises
pub mod Answers
pub mod Changes
pub mod Opened
pub mod Copies

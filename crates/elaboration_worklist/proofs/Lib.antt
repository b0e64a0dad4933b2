pub mod Members
pub mod Distinct
pub mod Pushing
pub mod Worklists

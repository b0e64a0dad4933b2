pub mod TermVids
pub mod Fates

pub mod TermVids
mod Leaves

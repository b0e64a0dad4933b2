pub mod BlankLemmas
pub mod PieceLemmas
pub mod PlaceLemmas
pub mod ShapeLemmas
pub mod TreeLemmas
pub mod WordLemmas
pub mod WriteLemmas
pub mod WrittenLemmas

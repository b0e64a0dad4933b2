pub mod Fixing
pub mod Finding
pub mod FactLemmas
pub mod SolvedLemmas
pub mod RecordedLemmas

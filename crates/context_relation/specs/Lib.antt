pub mod Relating
pub mod SolverStates
pub mod Stepping
pub mod Closed
pub mod Completing
pub mod RegionTerms

pub mod ClosedTerms
pub mod Combining
pub mod ConstantLaws
pub mod Deferring
pub mod NumberVars
pub mod Solving
pub mod UniverseLaws
pub mod Variables

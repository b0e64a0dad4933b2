pub mod RejectionLaws
pub mod Decided
pub mod SolutionLaws
pub mod OpenedInstances
pub mod AskingLaws
pub mod FindingLaws
pub mod SmallTerms

pub mod Pairs
pub mod Instances
pub mod Rejecting
pub mod HeadKeys
pub mod KeyLaws
pub mod InstanceLaws

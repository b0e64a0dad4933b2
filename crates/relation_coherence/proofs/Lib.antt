pub mod Overlapping
pub mod FirstOrderBodies
pub mod ByForm
pub mod Bounding
pub mod BothOpened
pub mod Answering
pub mod Meeting

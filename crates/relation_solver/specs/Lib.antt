pub mod Rules
pub mod Traces
pub mod Solving

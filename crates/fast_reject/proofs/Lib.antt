pub mod Clashing
pub mod Outlining
mod Pairing
mod PairTests
mod Unlike
pub mod Instancing
pub mod Rejecting
pub mod KeysApart
pub mod Themselves
pub mod Keying

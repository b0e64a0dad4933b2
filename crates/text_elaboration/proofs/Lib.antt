pub mod PullLemmas
pub mod StatedLemmas
pub mod PutLemmas
pub mod SaidLemmas
pub mod ReachLemmas
pub mod SupertraitLemmas

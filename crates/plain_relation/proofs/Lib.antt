pub mod Bodies
pub mod Concrete
pub mod PlainLemmas

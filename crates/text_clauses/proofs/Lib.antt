pub mod ClauseLemmas

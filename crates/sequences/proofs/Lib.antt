pub mod HashLemmas
pub mod LatestLemmas
pub mod MapLemmas
pub mod NameTests
pub mod PairLemmas
pub mod ShortLemmas
pub mod TakeLemmas
mod MergeEnds
mod PairAt

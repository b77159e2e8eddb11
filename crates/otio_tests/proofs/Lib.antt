pub mod CutLemmas
pub mod CallerLemmas

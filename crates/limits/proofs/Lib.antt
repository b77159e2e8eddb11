pub mod IntegerSums
pub mod IntegerTests
pub mod ListLemmas

-- Tests of instants, from facts and back.
pub use Rattle.limits.proofs.IntegerTests.{below-int_lt as lt_yes, above-int_lt as lt_no}
pub use Rattle.limits.proofs.IntegerTests.{below-int_le as le_yes, above-int_le as le_no}
pub use Rattle.limits.proofs.IntegerTests.{int_lt-true as lt_is, int_le-true as le_is}

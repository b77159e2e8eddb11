-- The first record frame of events in order, as the crates above cite it.
pub use Rattle.edl_law.proofs.EventRanges.{first_is}

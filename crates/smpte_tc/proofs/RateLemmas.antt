-- Words and the rates that they are: their home is `tick_time`.
pub use Rattle.tick_time.proofs.RateWordLemmas.{rate_once, given_rate, rate_given}

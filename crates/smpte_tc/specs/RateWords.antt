-- Words that are rates: their home is `tick_time`.
pub use Rattle.tick_time.specs.RateWords.{IsRateWord}

use Rattle.flat_law.proofs.Fair.{has_fair}
use Rattle.flat_law.proofs.Windowed.{windowed}
use Rattle.flat_law.proofs.Agreeing.{window_agrees}
use Rattle.flat_law.proofs.laws.windowed_shows.Goals as goal

pub returns : goal.returns
returns c = record {
  agree = λ t r a b k n s. window_agrees t r a b k n s.faultless (has_fair t s.calm);
  shows = λ t r a b rate_kept k n blind s.
      windowed t r a b rate_kept k n blind s.faultless (has_fair t s.calm);
}

use Rattle.flat_law.proofs.Fair.{has_fair}
use Rattle.flat_law.proofs.FlatSound.{flat_there}
use Rattle.flat_law.proofs.WindowSound.{window_there}
use Rattle.flat_law.proofs.OthersSound.{join_there}
use Rattle.flat_law.proofs.laws.flat_calls_are_made.Goals as goal

pub returns : goal.returns
returns c = record {
  flat = λ t kind keep l s. flat_there t kind keep l s.faultless;
  window = λ t a b s. window_there t a b s.faultless (has_fair t s.calm);
  join = join_there;
}

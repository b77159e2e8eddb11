use Rattle.flat_law.proofs.Flat.{flattened}
use Rattle.flat_law.proofs.Agreeing.{flat_agrees}
use Rattle.flat_law.proofs.Ones.{flattened_one}
use Rattle.flat_law.proofs.laws.flattened_shows.Goals as goal

pub returns : goal.returns
returns c = record {
  one = flattened_one;
  shows = λ t r kind keep rate_kept u blind s. flattened t r kind keep rate_kept u blind s.faultless;
  agree = λ t r kind keep u s. flat_agrees t r kind keep u s.faultless;
}

use Rattle.std.proofs.Common.{ap, refl, List, ℕ}
use Rattle.std.specs.Option.{option_map}
use denote.Ref.{Bor}
use Rattle.command_words.proofs.edits.edit_of.Goals as goal

abbrev now : Bor (List ℕ) → List ℕ
now s = s.now

pub returns-in-Some-rate_asked : goal.returns-in-Some-rate_asked
returns-in-Some-rate_asked c = record {
  file = ap (option_map now) c.in-Some.is;
  script = rw c.in-Some-script.is refl;
  rate = c.in-Some-rate_asked.rate;
  is_rate = c.in-Some-rate_asked.ensures;
  means = c.editing_of.ensures;
}

use Rattle.std.proofs.Common.{ap, List, ℕ}
use Rattle.std.specs.Option.{option_map}
use denote.Ref.{Bor}
use Rattle.command_words.proofs.pulls.pull_of.Goals as goal

abbrev now : Bor (List ℕ) → List ℕ
now s = s.now

pub returns-in-Some-rate_asked : goal.returns-in-Some-rate_asked
returns-in-Some-rate_asked c = record {
  file = ap (option_map now) c.in-Some.is;
  handles = c.in-Some-handles_asked.handles;
  are = c.in-Some-handles_asked.ensures;
  rate = c.in-Some-rate_asked.rate;
  is_rate = c.in-Some-rate_asked.ensures;
  means = c.pull_command.ensures;
}

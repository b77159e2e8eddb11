use Rattle.std.proofs.Common.{ap, List, ℕ}
use Rattle.std.specs.Option.{option_map}
use denote.Ref.{Bor}
use Rattle.command_words.proofs.Asking.{asked_with}
use Rattle.command_words.proofs.conversions.conversion_of.Goals as goal

abbrev now : Bor (List ℕ) → List ℕ
now s = s.now

pub returns-in-Some-command_in : goal.returns-in-Some-command_in
returns-in-Some-command_in c = record {
  file = ap (option_map now) c.in-Some.is;
  input = c.in-Some-input_of.input;
  reads = c.in-Some-input_of.ensures;
  output = c.in-Some-output_of.output;
  writes = c.in-Some-output_of.ensures;
  rate = c.in-Some-rate_asked.rate;
  is_rate = c.in-Some-rate_asked.ensures;
  older = c.in-Some-older_asked.older;
  family = c.in-Some-older_asked.ensures;
  means = c.in-Some-command_in.ensures;
}

pub returns-in-None : goal.returns-in-None
returns-in-None c = λ command name asked.
    c.in-None.ensures command
    (asked_with command name c.in-Some.name.now c.in-Some-input_of.input
    c.in-Some-output_of.output c.in-Some-rate_asked.rate c.in-Some-older_asked.older _
    (ap (option_map now) c.in-Some.is) c.in-Some-input_of.ensures c.in-Some-output_of.ensures
    c.in-Some-rate_asked.ensures c.in-Some-older_asked.ensures asked).0

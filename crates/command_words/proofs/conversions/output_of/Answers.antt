use Rattle.std.proofs.Common.{List, ℕ}
use Rattle.std.specs.Option.{option_map}
use denote.Ref.{Bor}
use Rattle.command_words.proofs.conversions.output_of.Goals as goal

abbrev now : Bor (List ℕ) → List ℕ
now s = s.now

pub returns-in-Some : goal.returns-in-Some
returns-in-Some c = rw c.in-Some.is (c.form_of_word.ensures (option_map now c.args.target))

use Rattle.std.proofs.Common.{ap}
use Rattle.json_text.specs.State.Machine.{step}
use Rattle.json_text.specs.State.Stands.{levels_of, hand_of}
use Rattle.json_text.proofs.Skims.{value_skims}
use Rattle.json_text.proofs.machine.Machine.skim_value.Goals as goal

pub returns-then-blank-gt0 : goal.returns-then-blank-gt0
returns-then-blank-gt0 c = value_skims c.args.self.now c.args.bytes.now c.blank_count-blank.result c.requires c.blank_count-blank.ensures.within c.blank_count-blank.ensures.blank

pub skim_quoted-requires-clause-begins : goal.skim_quoted-requires-clause-begins
skim_quoted-requires-clause-begins c = let old = c.args.self.now in ap (λ h. step 127 (levels_of old) (hand_of h old.text.items old.root) 34) c.requires

use Rattle.std.proofs.Common.{ap}
use Rattle.json_text.specs.State.Machine.{step}
use Rattle.json_text.specs.State.Stands.{levels_of, hand_of}
use Rattle.json_text.proofs.Skims.{name_skims}
use Rattle.json_text.proofs.machine.Machine.skim_name.Goals as goal

pub skim_quoted-requires-clause-begins : goal.skim_quoted-requires-clause-begins
skim_quoted-requires-clause-begins c = let old = c.args.self.now in ap (λ h. step 127 (levels_of old) (hand_of h old.text.items old.root) 34) c.requires

pub returns : goal.returns
returns c = name_skims c.args.self.now c.args.bytes.now c.blank_count.result c.requires c.blank_count.ensures.within c.blank_count.ensures.blank

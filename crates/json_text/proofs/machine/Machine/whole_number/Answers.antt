use Rattle.std.proofs.Common.{Ok, ◌∙◌, ap, sym}
use Rattle.json_value.specs.declared.Json.TheVariants.{Num}
use Rattle.json_text.specs.State.Machine.{MachineState, state}
use Rattle.json_text.specs.State.Stands.{levels_of, hand_of}
use Rattle.json_text.proofs.WholeNumerals.{numeral_skims}
use Rattle.json_text.proofs.machine.Machine.whole_number.Goals as goal

pub returns : goal.returns
returns c =
    let placed = c.place.new.self in
    let numeral = c.in_ok-numeral.numeral in
    let hand = hand_of c.in-Some.next placed.text.items placed.root in
    numeral_skims c.args.self.now (state (levels_of placed) hand) c.args.bytes.now numeral c.args.count c.requires.hand c.requires.whole c.in_ok-numeral.ensures
    (c.in-Some.ensures (Num numeral) placed.root placed.text.items ∙ ap (λ (s : MachineState). Ok (state s.levels hand)) (sym c.in_ok-place.ensures))

use Rattle.std.proofs.Common.{◌≡◌, ◌∙◌, sym, length, false}
use Rattle.std.specs.Prelude.{◌==◌}
use Rattle.json_text.specs.State.Stands.{state_of, levels_of, value_of, letters_of}
use Rattle.json_text.proofs.OpenLevels.{letter_goes, taken_as}
use Rattle.json_text.proofs.machine.Machine.in_word.Goals as goal

pub returns-else-is_empty : goal.returns-else-is_empty
returns-else-is_empty c =
    let some : (length c.in-Some.rest.now == 0) ≡ false = sym c.is_empty.ensures ∙ c.if-is_empty.false in
    taken_as c.goes.result _ _ (state_of c.goes.new.self) c.goes.ensures
    (letter_goes (levels_of c.args.self.now) (value_of c.args.word) (letters_of c.args.word) c.left.result.now c.in-Some.rest.now c.in-Some.first.now c.args.byte c.args.count
    c.left.ensures c.in-Some.ensures.cases.0 some c.if-byte-first.false)

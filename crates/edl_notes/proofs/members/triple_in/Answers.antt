use Rattle.std.proofs.Common.{sym}
use Rattle.note_text.specs.Views.{triple}
use Rattle.edl_notes.proofs.ColorSteps.{of_value, as_triple, match_as}
use Rattle.edl_notes.proofs.members.triple_in.Goals as goal

pub returns : goal.returns
returns c =
    let e = sym c.in-Some.ensures in
    match_as c.numerals_in.result _ _ _ _
    (λ none t h. none t (of_value c.args.name.now c.args.sop.now c.in-Some.value.now t e h))
    (λ found h. as_triple c.args.name.now c.args.sop.now c.in-Some.value.now (triple found) e h)
    c.numerals_in.ensures

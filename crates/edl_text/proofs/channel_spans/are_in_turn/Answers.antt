use Rattle.std.proofs.Common.{refl, ◌∙◌, w64, FitsSigned, rules}
use Rattle.std.proofs.lemmas.Int.{to_z-of_z}
use Rattle.edl_text.proofs.TurnSteps.{in_turn_next}
use Rattle.edl_text.proofs.channel_spans.are_in_turn.Goals as goal

pub spans-preserved : goal.spans-preserved
spans-preserved c =
    let fits : FitsSigned w64 c.end_of-end.result = search rules in
    let end = to_z-of_z w64 c.end_of-end.result fits ∙ c.end_of-end.ensures in
    in_turn_next _ _ c.args.spans.now c.spans.span-index _ c.spans-test.true end (c.if-not-follows.ensures refl) c.spans.invariant

use Rattle.std.proofs.Common.{sym, arith, Some, ◌∙◌}
use Rattle.json_text.proofs.RunLemmas.{more_places}
use Rattle.json_text.proofs.runs.numeral_run.Goals as goal

pub loop-index-preserved : goal.loop-index-preserved
loop-index-preserved c =
    more_places (Some c.args.place) c.loop-index.last c.args.bytes.now c.loop-index.index (omega arith) c.loop-index.invariant
    ∙ sym c.next_place.ensures ∙ c.in-Some.is

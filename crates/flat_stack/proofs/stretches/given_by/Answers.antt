use Rattle.std.proofs.Common.{sym, ◌∙◌}
use Rattle.std.proofs.lemmas.Int.{to_z-of_z}
use Rattle.flat_stack.proofs.LayerLemmas.{given_yes, given_no}
use Rattle.flat_stack.proofs.stretches.given_by.Goals as goal

pub returns-then-gives : goal.returns-then-gives
returns-then-gives c =
    let fits = c.ranges.start in
    simp to_z-of_z (given_yes c.args.item.now c.args.track c.args.child c.args.start (sym c.gives.ensures ∙ c.if-gives.true))

pub returns : goal.returns
returns c = given_no c.args.item.now c.args.track c.args.child c.args.start (sym c.gives.ensures ∙ c.if-gives.false)

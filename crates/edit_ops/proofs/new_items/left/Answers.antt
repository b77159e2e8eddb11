use Rattle.std.proofs.Common.{arith, of_z, to_z}
use mir.Syntax.{w128}
use Rattle.std.proofs.lemmas.Int.{ints}
use Rattle.std.proofs.lemmas.Result.{IfOk-weaker}
use Rattle.edit_ops.proofs.Fillings.{gap_made, one_few}
use Rattle.edit_ops.proofs.new_items.left.Goals as goal

pub returns-in-Gap-clause-made : goal.returns-in-Gap-clause-made
returns-in-Gap-clause-made c =
    IfOk-weaker c.one.result _ _ (λ put e. gap_made c.args.rate c.args.mode c.args.ticks
    (to_z w128 (of_z w128 c.args.ticks)) c.short_gap.result put.items c.in-Gap.is
    c.short_gap.ensures (omega (arith, ints, c.ranges.ticks)) e) c.one.ensures

pub returns-in-Gap-clause-few : goal.returns-in-Gap-clause-few
returns-in-Gap-clause-few c =
    IfOk-weaker c.one.result _ _ (λ put e. one_few put.items c.short_gap.result e) c.one.ensures

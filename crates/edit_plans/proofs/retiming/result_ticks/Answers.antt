use Rattle.std.proofs.Common.{ap, sym, length, ◌∙◌}
use Rattle.otio_model.specs.Sums.{capped}
use Rattle.otio_model.specs.Trees.{items_of}
use Rattle.edit_plans.specs.declared.totals.Amount.{Amount}
use Rattle.edit_plans.specs.Amounts.{ticks_in}
use Rattle.edit_plans.specs.Retimings.{ranged_from}
use Rattle.edit_plans.proofs.Exchanges.{ticks_gone, ticks_then}
use Rattle.edit_plans.proofs.Retimings.{retimed_is}
use Rattle.edit_plans.proofs.retiming.result_ticks.Goals as goal

pub exchanged_ticks-requires : goal.exchanged_ticks-requires
exchanged_ticks-requires c = ticks_gone c.args.children.now c.args.at (length c.args.ranges.now)
    c.added_ticks.result c.stretch_amount-gone.result.ticks c.requires.few c.added_ticks.ensures
    (ap (λ (a : Amount). a.ticks) c.stretch_amount-gone.ensures)

pub returns : goal.returns
returns c =
    ticks_then c.args.children.now c.args.at (length c.args.ranges.now) c.added_ticks.result
    c.stretch_amount-gone.result.ticks c.come_ticks-come.result c.exchanged_ticks.result
    (ranged_from c.args.at c.args.ranges.now (items_of c.args.children.now))
    c.requires.few c.added_ticks.ensures
    (ap (λ (a : Amount). a.ticks) c.stretch_amount-gone.ensures) c.come_ticks-come.ensures
    c.exchanged_ticks.ensures
    ∙ ap (λ xs. capped (ticks_in xs)) (sym (retimed_is c.args.at c.args.ranges.now
    (items_of c.args.children.now) c.requires.there))

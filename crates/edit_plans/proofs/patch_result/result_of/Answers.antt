use Rattle.std.proofs.Common.{◌≡◌, ap, ◌∙◌, subst}
use Rattle.otio_model.specs.declared.compositions.Listed.{Listed}
use Rattle.otio_model.specs.Counts.{count}
use Rattle.otio_model.specs.Edits.{replaced, with_at}
use Rattle.otio_model.specs.Kept.{capped_count}
use Rattle.otio_model.specs.Sums.{capped}
use Rattle.otio_model.specs.Trees.{items_of, listed}
use Rattle.edit_plans.specs.declared.totals.Amount.{Amount}
use Rattle.edit_plans.specs.Amounts.{amount_in, ticks_in}
use Rattle.edit_plans.proofs.Exchanges.{items_gone, items_then, one_list, ticks_gone, ticks_then}
use Rattle.edit_plans.proofs.patch_result.result_of.Goals as goal

pub exchanged_ticks-requires : goal.exchanged_ticks-requires
exchanged_ticks-requires c =
    ticks_gone c.track_of-children.result.now c.args.middle.now.at c.args.middle.now.count
    c.added_ticks.result c.stretch_amount-gone.result.ticks c.track_of-children.ensures.few
    c.added_ticks.ensures
    (ap (λ (a : Amount). a.ticks) c.stretch_amount-gone.ensures)

pub exchanged_items-requires : goal.exchanged_items-requires
exchanged_items-requires c =
    items_gone c.args.place.now c.args.timeline.now.tracks.children c.track_of-children.result.now
    c.args.middle.now.at c.args.middle.now.count c.items_below-all.result
    c.stretch_amount-gone.result.items
    c.track_of-children.ensures.at c.requires.few c.items_below-all.ensures
    (ap (λ (a : Amount). a.items) c.stretch_amount-gone.ensures)

pub returns-clause-ticks : goal.returns-clause-ticks
returns-clause-ticks c = λ l e.
    subst (λ (z : Listed). c.exchanged_ticks.result
    ≡ capped (ticks_in (replaced c.args.middle.now.at c.args.middle.now.count
    c.args.middle.now.put.items (items_of z))))
    (one_list c.track_of-children.result.now l c.track_of-children.ensures.at e)
    (ticks_then c.track_of-children.result.now c.args.middle.now.at c.args.middle.now.count
    c.added_ticks.result c.stretch_amount-gone.result.ticks c.amount_of-come.result.ticks
    c.exchanged_ticks.result c.args.middle.now.put.items
    c.track_of-children.ensures.few c.added_ticks.ensures
    (ap (λ (a : Amount). a.ticks) c.stretch_amount-gone.ensures)
    (ap (λ (a : Amount). a.ticks) (c.amount_of-come.ensures
    ∙ ap amount_in c.as_slice.ensures.value)) c.exchanged_ticks.ensures)

pub returns-clause-items : goal.returns-clause-items
returns-clause-items c = λ l e.
    subst (λ (z : Listed). c.exchanged_items.result
    ≡ capped_count (count (with_at c.args.place.now
    (listed (replaced c.args.middle.now.at c.args.middle.now.count c.args.middle.now.put.items
    (items_of z))) c.args.timeline.now.tracks.children)))
    (one_list c.track_of-children.result.now l c.track_of-children.ensures.at e)
    (items_then c.args.place.now c.args.timeline.now.tracks.children c.track_of-children.result.now
    c.args.middle.now.at c.args.middle.now.count c.items_below-all.result
    c.stretch_amount-gone.result.items c.amount_of-come.result.items
    c.exchanged_items.result c.args.middle.now.put.items
    c.track_of-children.ensures.at c.requires.few c.items_below-all.ensures
    (ap (λ (a : Amount). a.items) c.stretch_amount-gone.ensures)
    (ap (λ (a : Amount). a.items) (c.amount_of-come.ensures
    ∙ ap amount_in c.as_slice.ensures.value)) c.exchanged_items.ensures)

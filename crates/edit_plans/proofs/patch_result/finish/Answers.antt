use Rattle.std.proofs.Common.{arith, sym, refl, ◌∙◌, subst, List}
use Rattle.otio_model.specs.declared.compositions.ItemOf.{ItemOf}
use Rattle.otio_model.specs.declared.compositions.Listed.{Listed}
use Rattle.otio_model.specs.declared.patches.Put.TheVariants.{Items}
use Rattle.edits.specs.Refusals.{too_long as refused_long, too_many as refused_many}
use Rattle.edit_plans.specs.Planned.{IsPlan}
use Rattle.edit_plans.proofs.Endings.{few_put, not_too_long, not_too_many, planned, too_long}
use Rattle.edit_plans.proofs.Endings.{too_many}
use Rattle.edit_plans.proofs.patch_result.finish.Goals as goal

pub result_of-made-requires-clause-put : goal.result_of-made-requires-clause-put
result_of-made-requires-clause-put c = few_put c.args.timeline.now c.requires.edit.0 c.args.place
    c.args.middle.at c.args.middle.count c.args.middle.put.items c.requires.sound c.requires.few
    c.requires.edit.1

pub is_too_long-requires-clause-put : goal.is_too_long-requires-clause-put
is_too_long-requires-clause-put c = few_put c.args.timeline.now c.requires.edit.0 c.args.place
    c.args.middle.at c.args.middle.count c.args.middle.put.items c.requires.sound c.requires.few
    c.requires.edit.1

pub returns-then-is_too_long-clause-fault : goal.returns-then-is_too_long-clause-fault
returns-then-is_too_long-clause-fault c = λ e m. refused_long m.early
    (too_long c.args.timeline.now e c.args.place c.args.middle.at c.args.middle.count
    c.result_of-made.result.ticks c.args.middle.put.items c.requires.sound c.requires.few m
    c.result_of-made.ensures.ticks
    (sym c.is_too_long.ensures ∙ c.if-is_too_long.true)) refl

pub returns-then-made-gt-MOST_ITEMS-clause-fault : goal.returns-then-made-gt-MOST_ITEMS-clause-fault
returns-then-made-gt-MOST_ITEMS-clause-fault c = λ e m. refused_many m.early
    (not_too_long c.args.timeline.now e c.args.place c.args.middle.at c.args.middle.count
    c.result_of-made.result.ticks c.args.middle.put.items c.requires.sound c.requires.few m
    c.result_of-made.ensures.ticks
    (sym c.is_too_long.ensures ∙ c.if-is_too_long.false))
    (too_many c.args.timeline.now e c.args.place c.args.middle.at c.args.middle.count
    c.result_of-made.result.items c.args.middle.put.items c.requires.sound c.requires.few m
    c.result_of-made.ensures.items
    (omega (arith, c.if-made-gt-MOST_ITEMS.true))) refl

pub returns-clause-plan : goal.returns-clause-plan
returns-clause-plan c = λ e m.
    subst (λ (l : List (ItemOf Listed)). IsPlan c.args.timeline.now e
    (record {
      place = c.args.place;
      at = c.args.middle.at;
      put = Items c.args.middle.count l;
    })) (sym c.of.ensures)
    (planned c.args.timeline.now e c.args.place c.args.middle.at c.args.middle.count
    c.args.middle.put.items c.requires.sound c.requires.few m
    (not_too_long c.args.timeline.now e c.args.place c.args.middle.at c.args.middle.count
    c.result_of-made.result.ticks c.args.middle.put.items c.requires.sound c.requires.few m
    c.result_of-made.ensures.ticks
    (sym c.is_too_long.ensures ∙ c.if-is_too_long.false))
    (not_too_many c.args.timeline.now e c.args.place c.args.middle.at c.args.middle.count
    c.result_of-made.result.items c.args.middle.put.items c.requires.sound c.requires.few m
    c.result_of-made.ensures.items
    (omega (arith, c.if-made-gt-MOST_ITEMS.false))))

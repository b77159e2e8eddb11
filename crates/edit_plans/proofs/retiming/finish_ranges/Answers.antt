use Rattle.std.proofs.Common.{◌+◌, ◌≤◌, arith, refl, sym, subst, List, Option, drop, length}
use Rattle.tick_time.specs.declared.spans.Span.{Span}
use Rattle.otio_model.specs.declared.patches.Put.TheVariants.{Ranges}
use Rattle.otio_model.specs.Counts.{count}
use Rattle.otio_model.specs.Kept.{capped_count}
use Rattle.otio_model.specs.Trees.{items_of}
use Rattle.edits.specs.Refusals.{too_long as refused_long, too_many as refused_many}
use Rattle.edit_plans.specs.Planned.{IsPlan}
use Rattle.edit_plans.specs.Retimings.{KeepsUnranged}
use Rattle.edit_plans.proofs.Retimings.{ranges_kept, ranges_there, ranges_within}
use Rattle.edit_plans.proofs.Retimings.{retimed_long, retimed_many, retimed_plan, retimed_short}
use Rattle.edit_plans.proofs.Retimings.{tests_say}
use Rattle.edit_plans.proofs.retiming.finish_ranges.Goals as goal

pub track_of-children-requires-clause-there : goal.track_of-children-requires-clause-there
track_of-children-requires-clause-there c = ranges_there c.args.timeline.now c.requires.edit.0
    c.args.place c.args.retiming.at c.args.retiming.ranges.items c.requires.edit.1

pub result_ticks-ticks-requires-clause-there : goal.result_ticks-ticks-requires-clause-there
result_ticks-ticks-requires-clause-there c =
    subst (λ (rs : List (Option Span)). c.args.retiming.at + length rs
    ≤ length (items_of c.track_of-children.result.now)) (sym c.as_slice.ensures.value)
    (ranges_within c.args.timeline.now c.requires.edit.0
    c.args.place c.args.retiming.at c.args.retiming.ranges.items c.track_of-children.result.now
    c.requires.edit.1 c.track_of-children.ensures.at)

pub result_ticks-ticks-requires-clause-kept : goal.result_ticks-ticks-requires-clause-kept
result_ticks-ticks-requires-clause-kept c =
    subst (λ (rs : List (Option Span)). KeepsUnranged rs
    (drop c.args.retiming.at (items_of c.track_of-children.result.now)))
    (sym c.as_slice.ensures.value)
    (ranges_kept c.args.timeline.now c.requires.edit.0
    c.args.place c.args.retiming.at c.args.retiming.ranges.items c.track_of-children.result.now
    c.requires.edit.1 c.track_of-children.ensures.at)

pub is_too_long-requires-clause-there : goal.is_too_long-requires-clause-there
is_too_long-requires-clause-there c = ranges_within c.args.timeline.now c.requires.edit.0
    c.args.place c.args.retiming.at c.args.retiming.ranges.items c.track_of-children.result.now
    c.requires.edit.1 c.track_of-children.ensures.at

pub is_too_long-requires-clause-kept : goal.is_too_long-requires-clause-kept
is_too_long-requires-clause-kept c = ranges_kept c.args.timeline.now c.requires.edit.0
    c.args.place c.args.retiming.at c.args.retiming.ranges.items c.track_of-children.result.now
    c.requires.edit.1 c.track_of-children.ensures.at

pub returns-then-is_too_long-clause-fault : goal.returns-then-is_too_long-clause-fault
returns-then-is_too_long-clause-fault c = λ e m. refused_long m.early
    (retimed_long c.args.timeline.now e c.args.place c.args.retiming.at
    c.result_ticks-ticks.result (capped_count (count c.args.timeline.now.tracks.children))
    c.args.retiming.ranges.items c.is_too_long.result c.requires.sound c.requires.few
    (tests_say c.track_of-children.ensures.at c.as_slice.ensures.value
    c.result_ticks-ticks.ensures c.is_too_long.ensures refl) c.if-is_too_long.true m) refl

pub returns-then-items_below-gt-MOST_ITEMS-clause-fault :
    goal.returns-then-items_below-gt-MOST_ITEMS-clause-fault
returns-then-items_below-gt-MOST_ITEMS-clause-fault c = λ e m. refused_many m.early
    (retimed_short c.args.timeline.now e c.args.place c.args.retiming.at
    c.result_ticks-ticks.result c.items_below.result
    c.args.retiming.ranges.items c.is_too_long.result c.requires.sound c.requires.few
    (tests_say c.track_of-children.ensures.at c.as_slice.ensures.value
    c.result_ticks-ticks.ensures c.is_too_long.ensures c.items_below.ensures) c.if-is_too_long.false m)
    (retimed_many c.args.timeline.now e c.args.place c.args.retiming.at
    c.result_ticks-ticks.result c.items_below.result
    c.args.retiming.ranges.items c.is_too_long.result c.requires.sound c.requires.few
    (tests_say c.track_of-children.ensures.at c.as_slice.ensures.value
    c.result_ticks-ticks.ensures c.is_too_long.ensures c.items_below.ensures)
    (omega (arith, c.if-items_below-gt-MOST_ITEMS.true)) m) refl

pub returns-clause-plan : goal.returns-clause-plan
returns-clause-plan c = λ e m.
    subst (λ (rs : List (Option Span)). IsPlan c.args.timeline.now e (record {
      place = c.args.place;
      at = c.args.retiming.at;
      put = Ranges rs;
    })) (sym c.of.ensures)
    (retimed_plan c.args.timeline.now e c.args.place c.args.retiming.at
    c.result_ticks-ticks.result c.items_below.result
    c.args.retiming.ranges.items c.is_too_long.result c.requires.sound c.requires.few
    (tests_say c.track_of-children.ensures.at c.as_slice.ensures.value
    c.result_ticks-ticks.ensures c.is_too_long.ensures c.items_below.ensures) c.if-is_too_long.false
    (omega (arith, c.if-items_below-gt-MOST_ITEMS.false)) m)

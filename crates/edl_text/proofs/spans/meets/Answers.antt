use Rattle.std.proofs.Common.{FitsSigned, w64, rules, to_z-of_z}
use Rattle.std.specs.declared.ops.Bound.TheVariants.{Excluded, Unbounded}
use Rattle.std.specs.Ordering.{int_cmp}
use Rattle.std.specs.BTreeMap.Range.{IsRangeOf}
use Rattle.edl_text.proofs.SpanSteps.{last_meets, none_meets}
use Rattle.edl_text.proofs.spans.meets.Goals as goal

pub returns-in-Some : goal.returns-in-Some
returns-in-Some c =
    let fits : FitsSigned w64 c.args.event.now.rec_out = search rules in
    let range : IsRangeOf int_cmp Unbounded (Excluded c.args.event.now.rec_out) c.args.spans.now c.range.result = simp to_z-of_z at (c.range.ensures.in_range tt) in
    λ apart. rw c.is_below.ensures
    (last_meets _ c.range.result c.next_back.new.self (c.in-Some.field-0-0.now, c.in-Some.last.now) c.args.event.now.rec_in c.args.event.now.rec_out apart range c.in-Some.ensures.steps)

pub returns-in-None : goal.returns-in-None
returns-in-None c =
    let fits : FitsSigned w64 c.args.event.now.rec_out = search rules in
    let range : IsRangeOf int_cmp Unbounded (Excluded c.args.event.now.rec_out) c.args.spans.now c.range.result = simp to_z-of_z at (c.range.ensures.in_range tt) in
    λ apart. none_meets _ c.range.result c.args.event.now.rec_in c.args.event.now.rec_out range c.in-None.ensures.steps.0

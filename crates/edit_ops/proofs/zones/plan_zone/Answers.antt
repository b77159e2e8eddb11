use Rattle.std.proofs.Common.{arith, of_z, to_z}
use mir.Syntax.{w128}
use Rattle.std.proofs.lemmas.Int.{ints}
use Rattle.edit_ops.proofs.Answering.{answer-refused}
use Rattle.edit_ops.proofs.Zoning.{pin_known, pin_passed, pin_refused}
use Rattle.edit_ops.proofs.zones.plan_zone.Goals as goal

pub put_zone-requires-clause-edit : goal.put_zone-requires-clause-edit
put_zone-requires-clause-edit c =
    let q = c.args.put.slot in
    let z = c.requires.edit in (
      z.0,
      (
        z.1.0,
        pin_passed z.1.1
            (pin_known c.args.timeline.now c.args.put.place _ c.args.put.new.items q.from q.to
            q.ticks (to_z w128 (of_z w128 c.track_ticks-total.result))
            (to_z w128 (of_z w128 c.change-more.result))
            c.track_ticks-total.result c.change-more.result _
            c.track_of.ensures.list c.track_ticks-total.ensures.value q.from_low q.forward
            c.change-more.ensures c.in-Ok.ensures.ok (omega (arith, ints)) (omega (arith, ints))
            z.0 z.1.0 z.1.1),
      ),
    )

pub returns-in-Ok : goal.returns-in-Ok
returns-in-Ok c =
    let q = c.args.put.slot in
    λ e z. c.put_zone.ensures e (
      z.0,
      pin_passed z.1
          (pin_known c.args.timeline.now c.args.put.place _ c.args.put.new.items q.from q.to
          q.ticks (to_z w128 (of_z w128 c.track_ticks-total.result))
          (to_z w128 (of_z w128 c.change-more.result))
          c.track_ticks-total.result c.change-more.result _
          c.track_of.ensures.list c.track_ticks-total.ensures.value q.from_low q.forward
          c.change-more.ensures c.in-Ok.ensures.ok (omega (arith, ints)) (omega (arith, ints))
          e z.0 z.1),
    )

pub returns-in-Err : goal.returns-in-Err
returns-in-Err c =
    let q = c.args.put.slot in
    λ e z. answer-refused _ _ _ (λ free. pin_refused z.1
    (pin_known c.args.timeline.now c.args.put.place _ c.args.put.new.items q.from q.to q.ticks
    (to_z w128 (of_z w128 c.track_ticks-total.result)) (to_z w128 (of_z w128 c.change-more.result))
    c.track_ticks-total.result c.change-more.result _
    c.track_of.ensures.list c.track_ticks-total.ensures.value q.from_low q.forward
    c.change-more.ensures (c.in-Err.ensures.fault free) (omega (arith, ints)) (omega (arith, ints))
    e z.0 z.1))

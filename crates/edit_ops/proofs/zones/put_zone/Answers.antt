use Rattle.std.proofs.Common.{arith}
use Rattle.std.proofs.lemmas.Int.{ints}
use Rattle.edit_ops.proofs.Answering.{answer-finished, answer-refused}
use Rattle.edit_ops.proofs.Zoning.{far_known, zone_done}
use Rattle.edit_ops.proofs.zones.put_zone.Goals as goal

pub finish-requires-clause-edit : goal.finish-requires-clause-edit
finish-requires-clause-edit c =
    let q = c.args.put.slot in
    let z = c.requires.edit in (
      z.0,
      zone_done c.args.timeline.now c.args.put.place q.rate _ c.args.put.new.items _ _ _ q.from q.to
          _ _ c.requires.track.counts c.track_of-children.ensures.list c.in-Ok.ensures.made
          c.in-Ok.ensures.count c.in-Ok.ensures.within c.in-Ok.ensures.few
          (omega (arith, ints, q.from_low, q.from_high))
          (omega (arith, ints, q.from_low, q.forward, q.to_high)) z.0 z.1.0 _ z.1.1,
    )

pub returns-in-Ok : goal.returns-in-Ok
returns-in-Ok c =
    let q = c.args.put.slot in
    λ e z. answer-finished c.args.timeline.now c.args.put.place _ _ _ _ c.finish.ensures.plan
    c.finish.ensures.fault e
    (zone_done c.args.timeline.now c.args.put.place q.rate _ c.args.put.new.items _ _ _ q.from q.to
    _ _ c.requires.track.counts c.track_of-children.ensures.list c.in-Ok.ensures.made
    c.in-Ok.ensures.count c.in-Ok.ensures.within c.in-Ok.ensures.few
    (omega (arith, ints, q.from_low, q.from_high))
    (omega (arith, ints, q.from_low, q.forward, q.to_high)) e z.0 _ z.1)

pub returns-in-Range : goal.returns-in-Range
returns-in-Range c =
    let q = c.args.put.slot in
    λ e z. answer-refused _ _ _ (λ _. far_known c.args.timeline.now c.args.put.place _
    c.args.put.new.items _ _ q.from q.to c.track_of-children.ensures.list
    (c.in-Err.ensures.far c.in-Range.is) (omega (arith, ints, q.from_low, q.from_high))
    (omega (arith, ints, q.from_low, q.forward, q.to_high)) e z.0 _ z.1)

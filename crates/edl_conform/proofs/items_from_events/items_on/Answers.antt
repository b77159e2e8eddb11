use Rattle.std.proofs.Common.{◌≡◌, sym, subst, to_z, of_z, arith, drop, ◌+◌, None}
use Rattle.std.specs.Int.{w64}
use Rattle.std.specs.Option.{option_copied}
use Rattle.std.proofs.lemmas.Int.{ints}
use Rattle.edl_frames.specs.Shown.{on_channel}
use Rattle.edl_frames.specs.Conformed.{AreItems}
use Rattle.edl_conform.proofs.LoopSteps.{next_at, kept, step_on, step_off, step_end}
use Rattle.edl_conform.proofs.items_from_events.items_on.Goals as goal
use Rattle.edl_conform.proofs.items_from_events.items_on.Goals.{then-is_on+in_ok-put_event, else-is_on}

pub events-preserved : goal.events-preserved
events-preserved c =
    let e = c.event-item.result in
    let rate = c.args.media.now.rate in
    let media = option_copied c.args.media.now.rows in
    let first = to_z w64 (of_z w64 c.args.first) in
    let at = to_z w64 c.events.at-bits in
    let all = on_channel c.args.channel c.args.events.now in
    let l = drop c.events.event-index c.args.events.now in
    let rest = drop (c.events.event-index + 1) c.args.events.now in
    let before = option_copied c.events.before in
    let split =
    next_at c.args.events.now c.events.event-index e c.events-test.true c.event-item.is in
    elim c.if-is_on.branch [
      | then-is_on+in_ok-put_event w ↦
          rw (w.items-is, w.before-is, w.at-is)
          (step_on rate media first at (to_z w64 (of_z w64 e.rec_out)) c.args.channel all l rest
          before e c.events.items.items w.put_event.new.items.items split (sym w.if-is_on.ensures)
          (kept rate e.rec_out) c.events.invariant w.in_ok-put_event.ensures)
      | else-is_on w ↦
          rw (w.items-is, w.before-is, w.at-is)
          (step_off rate media first at c.args.channel all l rest before e c.events.items.items
          split (sym w.if-is_on.ensures) c.events.invariant)
    ]

pub returns : goal.returns
returns c =
    let media = option_copied c.args.media.now.rows in
    let b = c.ranges.first in
    let first : to_z w64 (of_z w64 c.args.first) ≡ c.args.first = omega (arith, ints, b) in
    let all = on_channel c.args.channel c.args.events.now in
    subst (λ z. AreItems c.args.media.now.rate media None z all c.events.items.items) first
    (step_end c.args.media.now.rate media (to_z w64 (of_z w64 c.args.first)) (to_z w64 c.events.at-bits)
    c.args.channel all c.args.events.now c.events.event-index (option_copied c.events.before)
    c.events.items.items c.events-test.false c.events.invariant)

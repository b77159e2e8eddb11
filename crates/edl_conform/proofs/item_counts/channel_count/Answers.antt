use Rattle.std.proofs.Common.{◌≡◌, sym, subst, to_z, of_z, arith, drop, ◌+◌, None}
use Rattle.std.specs.Int.{w64}
use Rattle.std.specs.Option.{option_copied}
use Rattle.std.proofs.lemmas.Int.{ints}
use Rattle.edl_frames.specs.Counted.{channel_count}
use Rattle.edl_frames.specs.Shown.{on_channel}
use Rattle.edl_conform.specs.Steps.{saturated}
use Rattle.edl_conform.proofs.CountLemmas.{count_on, count_off, count_end}
use Rattle.edl_conform.proofs.LoopSteps.{next_at, kept}
use Rattle.edl_conform.proofs.item_counts.channel_count.Goals as goal
use Rattle.edl_conform.proofs.item_counts.channel_count.Goals.{then-is_on, else-is_on}

pub events-preserved : goal.events-preserved
events-preserved c =
    let all = c.args.events.now in
    let i = c.events.event-index in
    let channel = c.args.channel in
    let first = to_z w64 (of_z w64 c.args.first) in
    let here = c.event-item.result in
    let before = option_copied c.events.before in
    let at = to_z w64 c.events.at-bits in
    let split = next_at all i here c.events-test.true c.event-item.is in
    elim c.if-is_on.branch [
      | then-is_on w ↦
          rw (w.count-is, w.before-is, w.at-is)
          (count_on c.args.rate first at (to_z w64 (of_z w64 here.rec_out)) channel
          (on_channel channel all) (drop i all) (drop (i + 1) all) before here c.events.count
          w.event_count.result w.add-count.result split (sym w.if-is_on.ensures)
          (kept c.args.rate here.rec_out) c.events.invariant w.event_count.ensures.count
          w.add-count.ensures.sum w.add-count.ensures.few)
      | else-is_on w ↦
          rw (w.count-is, w.before-is, w.at-is)
          (count_off c.args.rate first at channel (on_channel channel all) (drop i all)
          (drop (i + 1) all) before here c.events.count split (sym w.if-is_on.ensures)
          c.events.invariant)
    ]

pub returns-clause-count : goal.returns-clause-count
returns-clause-count c =
    let rate = c.args.rate in
    let b = c.ranges.first in
    let first : to_z w64 (of_z w64 c.args.first) ≡ c.args.first = omega (arith, ints, b) in
    let all = on_channel c.args.channel c.args.events.now in
    subst (λ z. c.events.count ≡ saturated (channel_count rate None z all)) first
    (count_end rate (to_z w64 (of_z w64 c.args.first)) (to_z w64 c.events.at-bits)
    c.args.channel all c.args.events.now c.events.event-index (option_copied c.events.before)
    c.events.count c.events-test.false c.events.invariant)

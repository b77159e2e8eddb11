use Rattle.std.proofs.Common.{◌≡◌, ◌∙◌, sym, ap, ap₂, ◌+ℤ◌, ◌&&◌, Bool, false, not, to_z, of_z, arith}
use Rattle.std.specs.Int.{w128}
use Rattle.std.proofs.lemmas.Int.{ints}
use Rattle.edl_frames.specs.Jobs.{is_on_frame}
use Rattle.edl_frames.specs.Seats.{is_item, length_in, clip_in}
use Rattle.edl_frames.specs.ChildEvents.{event_of}
use Rattle.edl_frames.specs.ChildReasons.{is_past_record, shown_tests}
use Rattle.edl_conform.specs.Stated.{stated_job, stated_seat}
use Rattle.edl_conform.proofs.JudgeLemmas.{item_reason_is, stands_near}
use Rattle.edl_conform.proofs.child_reasons.item_reason.Goals as goal

pub returns : goal.returns
returns c = λ k.
    let j = stated_job c.args.job.now in
    let s = stated_seat c.args.seat.now in
    let near = stands_near c.args.seat.now c.requires.seated in
    let from = near.start in
    let to = near.end in
    let start : to_z w128 (of_z w128 c.args.seat.now.start) ≡ c.args.seat.now.start =
    omega (arith, ints, from.low, from.high) in
    let end : to_z w128 (of_z w128 c.args.seat.now.end) ≡ c.args.seat.now.end =
    omega (arith, ints, to.low, to.high) in
    let on = c.both.ensures
    ∙ ap₂ (λ (x y : Bool). x && y) (c.is_on_frame.ensures ∙ ap (is_on_frame j) start)
    (c.is_on_frame-2.ensures ∙ ap (is_on_frame j) (end ∙ c.requires.seated.end)) in
    let f = c.if-not-is_item.false in
    let item : not c.is_item.result ≡ false = rw f in
    let g = c.if-not-both.false in
    let whole : not c.both.result ≡ false = rw g in
    item_reason_is (not (is_item c.args.seat.now.item.now))
    (not (is_on_frame j c.args.seat.now.start && is_on_frame j
    (c.args.seat.now.start +ℤ length_in c.args.seat.now.item.now)))
    (is_past_record j (event_of j k s)) (shown_tests j s (clip_in c.args.seat.now.item.now)) _ _ _
    (ap not (sym c.is_item.ensures) ∙ item) (ap not (sym on) ∙ whole)
    c.shown_reason.ensures (c.is_past_record.ensures k) c.or_record.ensures

use Rattle.std.proofs.Common.{◌≡◌, ◌∙◌, sym, ap, pos, unsigned_abs, Some, to_z, w64, arith}
use Rattle.std.specs.Int.{w128}
use Rattle.std.proofs.lemmas.Int.{ints, to_z-of_z}
use Rattle.edl_list.specs.Speeds.{side_speed}
use Rattle.note_text.proofs.SourceFrames.{slow, short_day, kept}
use Rattle.note_text.proofs.FirstShown.{found, missed_short, missed_over, missed_far, lasts}
use Rattle.note_text.proofs.belonging.frames_to.Goals.{else-k-length-via-then-k-length+else-shown_after-ahead, else-k-length-via-else-k-length}
use Rattle.note_text.proofs.belonging.frames_to.Goals as goal

pub ahead_of-requires-clause-high : goal.ahead_of-requires-clause-high
ahead_of-requires-clause-high c =
    let day = short_day c.args.rate c.requires.timecode in
    let high = c.requires.event.to.src_in.high in
    omega (arith, ints, day, high)

pub returns-in_default : goal.returns-in_default
returns-in_default c =
    let rate = c.args.rate in
    let event = c.args.event.now in
    let e = c.requires.event in
    let l = lasts event.rec_in event.rec_out _ (short_day rate c.requires.timecode) e.rec_in e.rec_out e.some in
    let f = to_z-of_z w128 c.args.frame c.ranges.frame in
    let few = l.few in
    missed_far rate event.to c.args.frame _ (slow rate event.to c.requires.timecode e.to) (omega (arith, few)) (rw f at c.in_default.ensures)

pub shown_after-requires-clause-few : goal.shown_after-requires-clause-few
shown_after-requires-clause-few c =
    let rate = c.args.rate in
    let event = c.args.event.now in
    let e = c.requires.event in
    let l = lasts event.rec_in event.rec_out _ (short_day rate c.requires.timecode) e.rec_in e.rec_out e.some in
    let few = l.few in
    let t = rw l.is at c.if-k-length.true in
    omega (arith, few, t)

pub shown_after-requires-clause-slow : goal.shown_after-requires-clause-slow
shown_after-requires-clause-slow c =
    let rate = c.args.rate in
    let event = c.args.event.now in
    let small = slow rate event.to c.requires.timecode c.requires.event.to in
    let s = kept c.side_speed-speed.result (side_speed rate event.to) c.side_speed-speed.ensures (omega (arith, small)) in
    rw s small

pub returns-then-shown_after-ahead : goal.returns-then-shown_after-ahead
returns-then-shown_after-ahead c =
    let rate = c.args.rate in
    let event = c.args.event.now in
    let e = c.requires.event in
    let k = c.least_frames-k.result in
    let l = lasts event.rec_in event.rec_out _ (short_day rate c.requires.timecode) e.rec_in e.rec_out e.some in
    let few = l.few in
    let within = rw l.is at c.if-k-length.true in
    let z : to_z w64 k ≡ pos k = omega (arith, ints, few, within) in
    let small = slow rate event.to c.requires.timecode e.to in
    let s = kept c.side_speed-speed.result (side_speed rate event.to) c.side_speed-speed.ensures (omega (arith, small)) in
    let f = to_z-of_z w128 c.args.frame c.ranges.frame in
    ap (λ n. Some (unsigned_abs n)) z
    ∙ found rate event.to c.args.frame c.in-Some.ahead k _ (sym f ∙ c.in-Some.ensures.1) within (rw s at c.least_frames-k.ensures.before)
    (sym (rw s at c.shown_after.ensures) ∙ c.if-shown_after-ahead.true)

pub returns-else-k-length : goal.returns-else-k-length
returns-else-k-length c =
    let rate = c.args.rate in
    let event = c.args.event.now in
    let e = c.requires.event in
    let k = c.least_frames-k.result in
    let l = lasts event.rec_in event.rec_out _ (short_day rate c.requires.timecode) e.rec_in e.rec_out e.some in
    let small = slow rate event.to c.requires.timecode e.to in
    let s = kept c.side_speed-speed.result (side_speed rate event.to) c.side_speed-speed.ensures (omega (arith, small)) in
    let f = to_z-of_z w128 c.args.frame c.ranges.frame in
    let is = sym f ∙ c.in-Some.ensures.1 in
    let before = rw s at c.least_frames-k.ensures.before in
    elim c.else-k-length.branch [
      | else-k-length-via-then-k-length+else-shown_after-ahead w ↦
          missed_over rate event.to c.args.frame c.in-Some.ahead k _ is before (rw s at c.least_frames-k.ensures.there)
          (λ q. w.if-shown_after-ahead.false ((rw s at w.shown_after.ensures) ∙ q))
      | else-k-length-via-else-k-length w ↦
          missed_short rate event.to c.args.frame c.in-Some.ahead k _ is (rw l.is at w.if-k-length.false) before
    ]

use Rattle.std.proofs.Common.{◌≡◌, ◌∙◌, ap, sym, ℤ, ◌-ℤ◌, w64, FitsSigned, rules}
use Rattle.std.proofs.lemmas.Int.{to_z-of_z}
use Rattle.tick_time.specs.Rates.{frame}
use Rattle.edl_frames.specs.Shown.{source_frame as frame_shown}
use Rattle.note_text.proofs.SourceFrames.{shown_low, short_day, timed, lies, span}
use Rattle.note_text.proofs.belonging.counts_for.Goals as goal

pub source_frame-frame-requires-clause-high : goal.source_frame-frame-requires-clause-high
source_frame-frame-requires-clause-high c =
    let e = c.requires.event in
    let day = short_day c.args.rate c.requires.timecode in
    let s = span c.args.event.now.rec_in c.args.event.now.rec_out c.args.at _ day e.rec_in e.rec_out c.ranges.at c.if-at-event.false c.if-event-at.false in
    rw s.is s.short

pub returns : goal.returns
returns c =
    let rate = c.args.rate in
    let event = c.args.event.now in
    let e = c.requires.event in
    let day = short_day rate c.requires.timecode in
    let s = span event.rec_in event.rec_out c.args.at _ day e.rec_in e.rec_out c.ranges.at c.if-at-event.false c.if-event-at.false in
    let k : ℤ = c.args.at -ℤ event.rec_in in
    let low = shown_low rate event.to k c.requires.timecode e.to s.low s.short in
    let shown : c.source_frame-frame.result ≡ frame_shown rate event.to k = c.source_frame-frame.ensures ∙ ap (λ z. frame_shown rate event.to z) s.is in
    let fits : FitsSigned w64 c.source_frame-frame.result = search rules in
    let f = to_z-of_z w64 c.source_frame-frame.result fits ∙ shown in
    c.is_ok.ensures.value
    ∙ timed _ c.frames.result (frame_shown rate event.to k) (frame rate.num rate.den) low (rw f at c.frames.ensures.ticks) (rw f at c.frames.ensures.fault)
    ∙ sym (lies event.rec_in event.rec_out c.args.at s.from s.to _)

use Rattle.std.proofs.Common.{◌≡◌, ◌∙◌, sym, ap, subst, unsigned_abs, ◌-ℤ◌, w64, FitsSigned, rules}
use Rattle.std.specs.Int.{w128}
use Rattle.std.proofs.lemmas.Int.{to_z-of_z}
use Rattle.tick_time.specs.Frames.{in_ticks}
use Rattle.tick_time.specs.Times.{IsInRange}
use Rattle.edl_conform.proofs.LoopSteps.{kept_length}
use Rattle.edl_notes.proofs.events.ticks_before.Goals as goal

pub of_frames-requires : goal.of_frames-requires
of_frames-requires c =
    let rate = c.args.work.list.now.rate in
    let a : FitsSigned w64 c.args.work.first = search rules in
    let b : FitsSigned w64 c.args.event.now.rec_in = search rules in
    let e = kept_length rate c.args.work.first c.args.event.now.rec_in a b c.requires.timed in
    record { range = subst (λ z. IsInRange (in_ticks rate z)) (sym e) c.requires.timed.range }

pub returns : goal.returns
returns c =
    let rate = c.args.work.list.now.rate in
    let a : FitsSigned w64 c.args.work.first = search rules in
    let b : FitsSigned w64 c.args.event.now.rec_in = search rules in
    let e = kept_length rate c.args.work.first c.args.event.now.rec_in a b c.requires.timed in
    let fits : FitsSigned w128 c.of_frames.result.ticks = search rules in
    let value : c.unsigned_abs.result ≡ unsigned_abs c.of_frames.result.ticks = simp to_z-of_z at c.unsigned_abs.ensures.value in
    value ∙ ap unsigned_abs (c.of_frames.ensures.ticks ∙ ap (in_ticks rate) e)
    ∙ ap (λ f. unsigned_abs (in_ticks rate (c.args.event.now.rec_in -ℤ f))) c.requires.first

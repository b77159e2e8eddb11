use Rattle.std.proofs.Common.{subst}
use Rattle.note_text.specs.Found.{SaysSop, SaysSat, SayMarkers}
use Rattle.edl_notes.specs.Steps.{AddsSaid}
use Rattle.edl_notes.proofs.FoundSteps.{clip_adds}
use Rattle.edl_notes.proofs.finding.put_clip.Goals as goal

pub returns : goal.returns
returns c =
    let s = c.args.shown in
    clip_adds s.rate s.event.now c.args.clip.now s.index c.args.notes.now.items c.put_correction.new.notes.items c.put_saturation.new.notes.items c.put_locators.new.notes.items
    (subst (λ m. AddsSaid s.index (SaysSop m) c.args.notes.now.items c.put_correction.new.notes.items) c.get.ensures c.in_ok-put_correction.ensures)
    (subst (λ m. AddsSaid s.index (SaysSat m) c.put_correction.new.notes.items c.put_saturation.new.notes.items) c.get-2.ensures c.in_ok-put_saturation.ensures)
    (subst (λ l. AddsSaid s.index (SayMarkers s.rate s.event.now l) c.put_saturation.new.notes.items c.put_locators.new.notes.items) c.as_slice.ensures c.in_ok-put_locators.ensures)

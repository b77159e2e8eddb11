use Rattle.note_text.specs.Found.{SaysSop}
use Rattle.note_text.specs.Views.{triple}
use Rattle.note_text.specs.declared.notes.Said.TheVariants.{Sop}
use Rattle.edl_notes.proofs.FoundSteps.{adds_nothing, adds_one, says_sop, says_no_sop}
use Rattle.edl_notes.proofs.finding.put_correction.Goals as goal

pub returns-in_ok-put_spoken-in-Some : goal.returns-in_ok-put_spoken-in-Some
returns-in_ok-put_spoken-in-Some c =
    let f = c.in-Some.found in
    adds_one c.args.index (SaysSop c.args.metadata.now) (Sop (triple f.slope) (triple f.offset) (triple f.power)) c.args.notes.now.items c.put_spoken.new.notes.items
    (says_sop c.args.metadata.now (triple f.slope) (triple f.offset) (triple f.power) c.in-Some.ensures) c.in_ok-put_spoken-in-Some.ensures

pub returns-in-None : goal.returns-in-None
returns-in-None c = adds_nothing c.args.index (SaysSop c.args.metadata.now) c.args.notes.now.items (says_no_sop c.args.metadata.now c.in-None.ensures)

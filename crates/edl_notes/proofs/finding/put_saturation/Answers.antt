use Rattle.note_text.specs.Found.{SaysSat}
use Rattle.note_text.specs.declared.notes.Said.TheVariants.{Sat}
use Rattle.edl_notes.proofs.FoundSteps.{adds_nothing, adds_one, says_sat, says_no_sat}
use Rattle.edl_notes.proofs.finding.put_saturation.Goals as goal

pub returns-in_ok-put_spoken-in-Some : goal.returns-in_ok-put_spoken-in-Some
returns-in_ok-put_spoken-in-Some c =
    adds_one c.args.index (SaysSat c.args.metadata.now) (Sat c.in-Some.numeral.now) c.args.notes.now.items c.put_spoken.new.notes.items
    (says_sat c.args.metadata.now c.in-Some.numeral.now c.in-Some.ensures) c.in_ok-put_spoken-in-Some.ensures

pub returns-in-None : goal.returns-in-None
returns-in-None c = adds_nothing c.args.index (SaysSat c.args.metadata.now) c.args.notes.now.items (says_no_sat c.args.metadata.now c.in-None.ensures)

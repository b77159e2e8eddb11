use Rattle.note_law.proofs.FoundOnce.{one_notes}
use Rattle.note_law.proofs.found_notes_are_one.Goals as goal

pub returns : goal.returns
returns c = one_notes

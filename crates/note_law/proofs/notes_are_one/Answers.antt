use Rattle.note_law.proofs.HeardOnce.{notes_once}
use Rattle.note_law.proofs.notes_are_one.Goals as goal

pub returns : goal.returns
returns c = notes_once

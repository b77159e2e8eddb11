use Rattle.note_law.proofs.FoundOwn.{found_own, found_spelled, found_written}
use Rattle.note_law.proofs.found_notes_are_writable.Goals as goal

pub returns : goal.returns
returns c = record { own = found_own; written = found_written; spelled = found_spelled }

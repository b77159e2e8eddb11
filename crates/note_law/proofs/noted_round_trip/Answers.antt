use Rattle.note_law.proofs.NotedTexts.{read_again}
use Rattle.note_law.proofs.NotesRead.{has_notes}
use Rattle.note_law.proofs.noted_round_trip.Goals as goal

pub returns-clause-list : goal.returns-clause-list
returns-clause-list c = read_again

pub returns-clause-notes : goal.returns-clause-notes
returns-clause-notes c = has_notes

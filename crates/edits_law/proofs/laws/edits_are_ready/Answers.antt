use Rattle.edits_law.proofs.Readied.{sound_ready, edited_ready}
use Rattle.edits_law.proofs.laws.edits_are_ready.Goals as goal

pub returns : goal.returns
returns c = record { sound = sound_ready; edited = edited_ready }

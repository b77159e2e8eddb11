use Rattle.note_law.proofs.NotedOnce.{one_noted}
use Rattle.note_law.proofs.noted_timelines_are_one.Goals as goal

pub returns : goal.returns
returns c = one_noted

use Rattle.writable_law.proofs.CalmTimelines.{stands_again, stands_old, timeline_calm}
use Rattle.writable_law.proofs.laws.writable_timelines_stand.Goals as goal

pub returns : goal.returns
returns c = record { calm = timeline_calm; again = stands_again; older = stands_old }

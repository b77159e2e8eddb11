use Rattle.writable_law.proofs.CalmTimelines.{stands_calm, stands_writable}
use Rattle.writable_law.proofs.laws.read_timelines_are_writable.Goals as goal

pub returns : goal.returns
returns c = record { writable = stands_writable; calm = stands_calm }

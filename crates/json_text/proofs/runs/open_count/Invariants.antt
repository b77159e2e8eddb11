use Rattle.std.proofs.Common.{◌≤◌, ◌-◌, length, take}
use Rattle.json_text.specs.State.Runs.{AreOpen}
use Rattle.json_text.proofs.runs.open_count.Given as goal

abbrev pub invariant-pieces : goal.invariant-pieces
invariant-pieces l = (l.at ≤ length l.bytes) × AreOpen (take l.at l.bytes)

abbrev pub decreases-pieces : goal.decreases-pieces
decreases-pieces l = length l.bytes - l.at

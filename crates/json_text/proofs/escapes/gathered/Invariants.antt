use Rattle.std.proofs.Common.{◌≤◌, ◌-◌, length, take}
use Rattle.json_text.specs.State.Runs.{StandsFor}
use Rattle.json_text.proofs.escapes.gathered.Given as goal

abbrev pub invariant-bytes : goal.invariant-bytes
invariant-bytes l = (l.at ≤ length l.bytes) × StandsFor (take l.at l.bytes) l.made.items

abbrev pub decreases-bytes : goal.decreases-bytes
decreases-bytes l = length l.bytes - l.at

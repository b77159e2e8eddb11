use Rattle.std.proofs.Common.{◌≡◌, ◌<◌, ◌≤◌, ◌-◌, length, take}
use Rattle.json_text.specs.StringTexts.{escaped}
use Rattle.json_text.proofs.quote.gathered.Given as goal

abbrev pub invariant-bytes : goal.invariant-bytes
invariant-bytes l = (0 < l.at) × (l.at ≤ length l.bytes) × (l.made.items ≡ escaped (take l.at l.bytes))

abbrev pub decreases-bytes : goal.decreases-bytes
decreases-bytes l = length l.bytes - l.at

use Rattle.std.proofs.Common.{◌≡◌, take}
use Rattle.json_text.specs.State.Runs.{AreOpen}
use Rattle.json_text.proofs.bytes.are_open.Given as goal

abbrev pub invariant-loop-byte : goal.invariant-loop-byte
invariant-loop-byte l = l.closing ≡ 0 → AreOpen (take l.byte-index l.bytes)

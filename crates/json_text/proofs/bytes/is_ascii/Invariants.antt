use Rattle.std.proofs.Common.{take}
use Rattle.json_text.proofs.Ascii.{AreAtMost}
use Rattle.json_text.proofs.bytes.is_ascii.Given as goal

abbrev pub invariant-loop-byte : goal.invariant-loop-byte
invariant-loop-byte l = AreAtMost l.largest (take l.byte-index l.bytes)

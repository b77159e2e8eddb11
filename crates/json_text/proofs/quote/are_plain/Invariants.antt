use Rattle.std.proofs.Common.{◌≡◌}
use Rattle.json_text.specs.StringTexts.{IsPlain}
use Rattle.json_text.proofs.quote.are_plain.Given as goal

abbrev pub invariant-loop-byte : goal.invariant-loop-byte
invariant-loop-byte l = l.needing ≡ 0 → IsPlain l.byte-index l.bytes

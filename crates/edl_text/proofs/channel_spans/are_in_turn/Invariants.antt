use Rattle.std.proofs.Common.{take}
use Rattle.edl_text.specs.StateSpans.{AreInTurn}
use Rattle.edl_text.proofs.channel_spans.are_in_turn.Given as goal

-- the spans so far are one behind another
abbrev pub invariant-spans : goal.invariant-spans
invariant-spans l = AreInTurn l.end (take l.span-index l.spans)

use Rattle.std.proofs.Common.{take}
use Rattle.edl_text.specs.StateSpans.{Keeps}
use Rattle.edl_text.specs.Overlaps.{AreRead}
use Rattle.edl_text.proofs.overlap.search_on.Given as goal

abbrev pub invariant-events : goal.invariant-events
invariant-events l = AreRead l.events → Keeps l.spans l.channel (take l.event-index l.events)

use Rattle.std.proofs.Common.{take}
use Rattle.edl_text.specs.StateSpans.{Follow}
use Rattle.edl_text.specs.Overlaps.{AreRead}
use Rattle.edl_text.proofs.overlap.do_follow.Given as goal

-- the events of the channel so far follow one another
abbrev pub invariant-events : goal.invariant-events
invariant-events l = AreRead l.events → Follow l.end l.channel (take l.event-index l.events)

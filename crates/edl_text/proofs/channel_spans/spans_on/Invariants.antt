use Rattle.std.proofs.Common.{take}
use Rattle.edl_text.specs.StateSpans.{HasSpans}
use Rattle.edl_text.proofs.channel_spans.spans_on.Given as goal

-- the spans of the events of the channel so far are kept
abbrev pub invariant-events : goal.invariant-events
invariant-events l = HasSpans l.channel (take l.event-index l.events) l.spans.items

use Rattle.std.proofs.Common.{◌≡◌, drop}
use Rattle.edl_frames.specs.Conformed.{has_events}
use Rattle.edl_frames.specs.Shown.{on_channel}
use Rattle.edl_conform.proofs.channels.has_events.Given as goal

abbrev pub invariant-events : goal.invariant-events
invariant-events l =
    has_events (on_channel l.channel (drop l.event-index l.events))
    ≡ has_events (on_channel l.channel l.events)

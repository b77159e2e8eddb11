use Rattle.std.proofs.Common.{drop}
use Rattle.std.specs.Option.{option_copied}
use Rattle.edl_frames.specs.Shown.{on_channel}
use Rattle.edl_conform.specs.Steps.{IsUnderWay}
use Rattle.edl_conform.proofs.items_from_events.items_on.Given as goal

abbrev pub invariant-events : goal.invariant-events
invariant-events l = IsUnderWay l.media.rate (option_copied l.media.rows) l.first
    (on_channel l.channel l.events) (on_channel l.channel (drop l.event-index l.events))
    (option_copied l.before) l.at l.items.items

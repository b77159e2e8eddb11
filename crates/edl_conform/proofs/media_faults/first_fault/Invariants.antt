use Rattle.std.proofs.Common.{◌≡◌, drop}
use Rattle.std.specs.Option.{option_copied}
use Rattle.edl_frames.specs.Refused.{first_fault}
use Rattle.edl_conform.proofs.media_faults.first_fault.Given as goal

abbrev pub invariant-events : goal.invariant-events
invariant-events l =
    first_fault l.media.rate (option_copied l.media.rows) (drop l.event-index l.events)
    ≡ first_fault l.media.rate (option_copied l.media.rows) l.events

use Rattle.std.proofs.Common.{take, All}
use Rattle.edl_law.specs.Law.{HasNames}
use Rattle.otio_tools.proofs.name_checks.check_texts.Given as goal

-- the names of the events so far are UTF-8
abbrev pub invariant-loop-event : goal.invariant-loop-event
invariant-loop-event l = All HasNames (take l.event-index l.list.events)

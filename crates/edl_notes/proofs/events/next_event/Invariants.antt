-- The events so far are on other channels or begin earlier.
use Rattle.std.proofs.Common.{◌-◌, length}
use Rattle.edl_notes.specs.Walks.{AreEarlier}
use Rattle.edl_notes.proofs.events.next_event.Given as goal

abbrev pub invariant-events : goal.invariant-events
invariant-events l = AreEarlier l.work.list.now l.channel l.start l.at

abbrev pub decreases-events : goal.decreases-events
decreases-events l = length l.work.list.now.events - l.at

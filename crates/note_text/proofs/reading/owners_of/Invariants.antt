use Rattle.std.proofs.Common.{◌≡◌, take}
use Rattle.note_text.specs.StateOwners.{owners_from}
use Rattle.note_text.proofs.reading.owners_of.Given as goal

-- the events so far were taken, without those that are black
abbrev pub invariant-events : goal.invariant-events
invariant-events l = l.owners.items ≡ owners_from 0 (take l.index l.events)

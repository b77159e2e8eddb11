-- The notes of the events so far were put.
use Rattle.edl_notes.proofs.FoundSteps.{HaveFound}
use Rattle.edl_notes.proofs.finding.notes_of.Given as goal

abbrev pub invariant-events : goal.invariant-events
invariant-events l = HaveFound l.timeline l.list.rate l.list.events l.places.items l.index l.notes.items

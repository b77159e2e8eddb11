-- The events so far have their places.
use Rattle.edl_conform.proofs.HomeLemmas.{AreGiven}
use Rattle.edl_conform.proofs.event_homes.homes.Given as goal

abbrev pub invariant-events : goal.invariant-events
invariant-events l = AreGiven l.events l.givers l.event-index l.given l.homes.items

use Rattle.edl_text.proofs.read_events.event_of.Goals as goal

pub returns-in-Some : goal.returns-in-Some
returns-in-Some c = rw c.in-Some.ensures c.event_from.ensures

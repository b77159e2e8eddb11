use Rattle.edl_text.proofs.read_speeds.speed_of.Goals as goal

pub returns-in-Some : goal.returns-in-Some
returns-in-Some c = rw c.in-Some.ensures c.speed_from.ensures

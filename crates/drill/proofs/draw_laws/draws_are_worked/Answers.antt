-- The first draws of seed 0 are as they were computed.
use Rattle.std.proofs.Common.{refl}
use Rattle.drill.proofs.draw_laws.draws_are_worked.Goals as goal

pub returns : goal.returns
returns c = record { first = refl; clip = refl; frames = refl; numbers = refl; edit = refl }

use Rattle.std.proofs.Common.{arith}
use Rattle.std.proofs.lemmas.Int.{to_z-of_z, ints}
use Rattle.flat_stack.proofs.PartLemmas.{front_all, front_cut}
use Rattle.flat_stack.proofs.cutting.up_to.Goals as goal

pub returns-then-sound_ticks-ticks : goal.returns-then-sound_ticks-ticks
returns-then-sound_ticks-ticks c = front_all c.args.rate c.args.item.now c.in_ok-copy.copy c.args.ticks c.sound_ticks.result c.sound_ticks.ensures.value (omega (arith, ints)) c.in_ok-copy.ensures

pub returns-in-Ok : goal.returns-in-Ok
returns-in-Ok c =
    let fits = c.ranges.ticks in
    let made = simp to_z-of_z at c.in-Ok.ensures.left in
    front_cut c.args.rate c.args.item.now c.in-Ok.front c.args.ticks c.sound_ticks.result c.sound_ticks.ensures.value (omega (arith, ints)) made

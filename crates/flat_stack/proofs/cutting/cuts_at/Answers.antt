use Rattle.std.proofs.Common.{arith}
use Rattle.std.proofs.lemmas.Int.{to_z-of_z, ints}
use Rattle.flat_stack.proofs.PartLemmas.{cut_early, cut_late, cut_inside}
use Rattle.flat_stack.proofs.cutting.cuts_at.Goals as goal

pub returns-then-ticks-le0 : goal.returns-then-ticks-le0
returns-then-ticks-le0 c = cut_early c.args.item.now c.args.ticks (omega (arith, ints))

pub returns-then-sound_ticks-ticks : goal.returns-then-sound_ticks-ticks
returns-then-sound_ticks-ticks c = cut_late c.args.item.now c.args.ticks c.sound_ticks.result c.sound_ticks.ensures.value (omega (arith, ints))

pub returns : goal.returns
returns c =
    let fits = c.ranges.ticks in
    let whole = simp to_z-of_z at c.is_whole_at.ensures in
    cut_inside c.args.item.now c.args.ticks c.sound_ticks.result c.is_whole_at.result c.sound_ticks.ensures.value (omega (arith, ints)) (omega (arith, ints)) whole

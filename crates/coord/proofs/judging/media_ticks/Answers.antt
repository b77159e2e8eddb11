use Rattle.std.proofs.Common.{arith}
use Rattle.std.proofs.lemmas.Int.{ints}
use Rattle.coord.proofs.judging.media_ticks.Goals as goal

pub returns-clause-least : goal.returns-clause-least
returns-clause-least c =
    omega (arith, ints, c.media_millionths.ensures.near, c.requires.low, c.requires.high)

pub returns-clause-most : goal.returns-clause-most
returns-clause-most c =
    omega (arith, ints, c.media_millionths.ensures.near, c.requires.low, c.requires.high)

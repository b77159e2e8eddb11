use Rattle.std.proofs.Common.{◌≡◌, ◌∙◌, pos, to_z, of_z, arith}
use mir.Syntax.{w64}
use Rattle.std.proofs.lemmas.Int.{ints}
use Rattle.coord.specs.Speeds.{effects_of}
use Rattle.coord.proofs.SpeedProducts.{kept_is}
use Rattle.coord.proofs.judging.speed.Goals as goal

pub returns-clause-value : goal.returns-clause-value
returns-clause-value c =
    let k = kept_is c.item_speed.result (pos 1000000) c.in-Some.speed (effects_of c.args.item.now) c.item_speed.ensures.speed c.in-Some.is in
    let r = c.in-Some.ensures.range in
    let cast : to_z w64 (of_z w64 c.in-Some.speed) ≡ c.in-Some.speed = omega (arith, ints, r.low, r.high) in
    cast ∙ k

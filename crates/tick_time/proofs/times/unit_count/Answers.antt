use Rattle.std.proofs.Common.{FitsSigned, ◌≡◌, ◌∙◌, ap, rules}
use Rattle.std.specs.Int.{int_div_euclid}
use Rattle.std.proofs.lemmas.Int.{to_z-of_z}
use mir.Syntax.{w128}
use Rattle.tick_time.proofs.Wholes.{count-product}
use Rattle.tick_time.proofs.times.unit_count.Goals as goal

pub returns-clause-exact : goal.returns-clause-exact
returns-clause-exact c = λ units e.
    let ticks : FitsSigned w128 c.args.ticks = c.ranges.ticks in
    let unit : FitsSigned w128 c.args.unit = c.ranges.unit in
    let fits : FitsSigned w128 c.div_euclid.result = search rules in
    let value : c.div_euclid.result ≡ int_div_euclid c.args.ticks c.args.unit = simp to_z-of_z at c.div_euclid.ensures in
    simp to_z-of_z (value ∙ ap (λ t. int_div_euclid t c.args.unit) e ∙ count-product units c.args.unit c.requires.unit)

use Rattle.std.proofs.Common.{FitsSigned, ◌≡◌, ◌≤◌, ◌∙◌, ◌*ℤ◌, ap, sym, rules, arith}
use Rattle.std.proofs.lemmas.Int.{to_z-of_z, ints}
use mir.Syntax.{w128}
use Rattle.tick_time.specs.Rates.{unit}
use Rattle.tick_time.proofs.Wholes.{units_of}
use Rattle.tick_time.proofs.times.Time.value_text.Goals as goal

pub returns : goal.returns
returns c =
    let ticks : FitsSigned w128 c.args.self.now.ticks = search rules in
    let unit_fits : FitsSigned w128 c.unit.result = search rules in
    let count : FitsSigned w128 c.unit_count.result = search rules in
    let some : 1 ≤ unit c.args.self.now.rate.num c.args.self.now.rate.den = omega (arith, ints, c.unit.ensures.value, c.unit.ensures.positive) in
    let units = units_of c.args.self.now.ticks (unit c.args.self.now.rate.num c.args.self.now.rate.den) some c.args.self.now.whole in
    let exact = simp to_z-of_z at (c.unit_count.ensures.exact units.0) in
    let same : c.unit_count.result ≡ units.0 = exact (units.1 ∙ ap (λ u. units.0 *ℤ u) (sym c.unit.ensures.value)) in
    record { units = units.0; counted = units.1; written = rw (← same) (simp to_z-of_z at c.millionths_text.ensures) }

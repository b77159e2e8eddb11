use Rattle.std.proofs.Common.{FitsSigned, ◌≡◌, pos, ◌*ℤ◌, int_div, w64, rules}
use Rattle.std.proofs.lemmas.Int.{to_z-of_z}
use mir.Syntax.{w128}
use Rattle.tick_time.specs.Rates.{unit}
use Rattle.tick_time.proofs.RateBounds.{parts_fit, unit_fits, unit_quotient}
use Rattle.tick_time.proofs.rates.unit_of.Goals as goal

pub overflow_mul-result : goal.overflow_mul-result
overflow_mul-result c =
    let den : FitsSigned w64 c.args.den = c.ranges.den in
    let from : FitsSigned w128 c.from.result = search rules in
    let same : c.from.result ≡ c.args.den = simp to_z-of_z at c.from.ensures in
    let product : FitsSigned w128 (pos 705600000000 *ℤ c.from.result) =
    rw same (parts_fit c.args.den c.requires.positive c.requires.small) in
    simp to_z-of_z product

pub returns : goal.returns
returns c =
    let den : FitsSigned w64 c.args.den = c.ranges.den in
    let from : FitsSigned w128 c.from.result = search rules in
    let same : c.from.result ≡ c.args.den = simp to_z-of_z at c.from.ensures in
    let product : FitsSigned w128 (pos 705600000000 *ℤ c.from.result) =
    rw same (parts_fit c.args.den c.requires.positive c.requires.small) in
    let num : FitsSigned w64 c.args.num = c.ranges.num in
    let from_num : FitsSigned w128 c.from-2.result = search rules in
    let same_num : c.from-2.result ≡ c.args.num = simp to_z-of_z at c.from-2.ensures in
    let is : int_div (pos 705600000000 *ℤ c.from.result) c.from-2.result
    ≡ pos (unit c.args.num c.args.den) =
    rw (same, same_num) (unit_quotient c.args.num c.args.den c.requires.positive
    c.requires.at_least_one) in
    let fits : FitsSigned w128 (int_div (pos 705600000000 *ℤ c.from.result) c.from-2.result) =
    rw is (unit_fits c.args.num c.args.den c.requires.positive c.requires.at_least_one) in
    simp to_z-of_z is

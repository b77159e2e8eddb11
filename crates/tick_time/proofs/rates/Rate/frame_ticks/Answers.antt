use Rattle.std.proofs.Common.{FitsSigned, pos, ◌*ℤ◌, ap, rules}
use Rattle.std.proofs.lemmas.Int.{to_z-of_z}
use mir.Syntax.{w128}
use Rattle.tick_time.proofs.RateBounds.{million_fits, million_low, million_high}
use Rattle.tick_time.proofs.rates.Rate.frame_ticks.Goals as goal

pub overflow_mul-result : goal.overflow_mul-result
overflow_mul-result c =
    let unit : FitsSigned w128 c.unit.result = search rules in
    let fits : FitsSigned w128 (pos 1000000 *ℤ c.unit.result) =
    million_fits c.unit.result c.unit.ensures.positive c.unit.ensures.small in
    simp to_z-of_z fits

pub returns-clause-value : goal.returns-clause-value
returns-clause-value c =
    let unit : FitsSigned w128 c.unit.result = search rules in
    let fits : FitsSigned w128 (pos 1000000 *ℤ c.unit.result) =
    million_fits c.unit.result c.unit.ensures.positive c.unit.ensures.small in
    simp to_z-of_z (ap (λ u. pos 1000000 *ℤ u) c.unit.ensures.value)

pub returns-clause-positive : goal.returns-clause-positive
returns-clause-positive c =
    let unit : FitsSigned w128 c.unit.result = search rules in
    let fits : FitsSigned w128 (pos 1000000 *ℤ c.unit.result) =
    million_fits c.unit.result c.unit.ensures.positive c.unit.ensures.small in
    simp to_z-of_z (million_low c.unit.result c.unit.ensures.positive)

pub returns-clause-small : goal.returns-clause-small
returns-clause-small c =
    let unit : FitsSigned w128 c.unit.result = search rules in
    let fits : FitsSigned w128 (pos 1000000 *ℤ c.unit.result) =
    million_fits c.unit.result c.unit.ensures.positive c.unit.ensures.small in
    simp to_z-of_z (million_high c.unit.result c.unit.ensures.positive c.unit.ensures.small)

use Rattle.std.proofs.Common.{FitsSigned, rules}
use Rattle.std.proofs.lemmas.Int.{to_z-of_z}
use mir.Syntax.{w128}
use Rattle.tick_time.proofs.Fractions.{read_fraction}
use Rattle.tick_time.proofs.decimals.Decimal.read.Goals as goal

pub returns-in-Some-clause-value : goal.returns-in-Some-clause-value
returns-in-Some-clause-value c = λ n s.
    let parts = c.split_numeral-parts.ensures in
    let fits : FitsSigned w128 c.offset.result = search rules in
    read_fraction n _ _ _ _ _ _ _ _ _ _ _ _ (parts.neg n s) (parts.whole n s) (parts.decimals n s) (parts.down n s) (parts.power n s)
    c.in-Some.ensures.all c.scaled.ensures.digits c.offset.ensures.value (simp to_z-of_z at c.scaled.ensures.scaled)

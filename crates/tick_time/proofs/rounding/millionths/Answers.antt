use Rattle.std.proofs.Common.{FitsSigned, rules}
use Rattle.std.proofs.lemmas.Int.{to_z-of_z}
use mir.Syntax.{w128}
use Rattle.tick_time.proofs.Halves.{huge-signed, rounded-signed}
use Rattle.tick_time.proofs.rounding.millionths.Goals as goal

pub returns-in-Some : goal.returns-in-Some
returns-in-Some c =
    let exp : FitsSigned w128 c.args.decimal.now.exp = search rules in
    let fits : FitsSigned w128 c.signed_number.result = search rules in
    let size = simp to_z-of_z at c.in-Some.ensures in
    simp to_z-of_z (rw c.signed_number.ensures (rounded-signed c.args.decimal.now.neg
    c.args.decimal.now.digits c.in-Some.size c.args.decimal.now.exp size))

pub returns-in-None : goal.returns-in-None
returns-in-None c =
    let fits : FitsSigned w128 c.args.decimal.now.exp = search rules in
    huge-signed c.args.decimal.now.neg c.args.decimal.now.digits c.args.decimal.now.exp (simp to_z-of_z at c.in-None.ensures)

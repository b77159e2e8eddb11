use Rattle.std.proofs.Common.{arith}
use Rattle.std.proofs.lemmas.Int.{ints}
use Rattle.show_prog.proofs.Euclid.{divisor_some}
use Rattle.show_prog.proofs.mix_weight.lowest.Goals as goal

pub nonzero_div-result : goal.nonzero_div-result
nonzero_div-result c =
    let e = c.divisor-common.ensures.value in let d = c.unsigned_abs-den.ensures.value in let p = c.requires.some in
    let s = divisor_some c.unsigned_abs-num.result c.unsigned_abs-den.result (omega (arith, ints)) in omega (arith, e, s)

pub nonzero_div-result-2 : goal.nonzero_div-result-2
nonzero_div-result-2 c =
    let e = c.divisor-common.ensures.value in let d = c.unsigned_abs-den.ensures.value in let p = c.requires.some in
    let s = divisor_some c.unsigned_abs-num.result c.unsigned_abs-den.result (omega (arith, ints)) in omega (arith, e, s)

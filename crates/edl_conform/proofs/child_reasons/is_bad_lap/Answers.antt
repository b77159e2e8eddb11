use Rattle.std.proofs.Common.{◌≡◌, ◌∙◌, ap, ap₂, ℤ, pos, ◌+ℤ◌, ◌-ℤ◌, ◌*ℤ◌, ◌||◌, Bool, FitsSigned, to_z, of_z, rules, arith}
use Rattle.std.specs.Prelude.{int_lt}
use Rattle.std.specs.Int.{w128}
use Rattle.std.proofs.lemmas.Int.{ints, to_z-of_z}
use Rattle.edl_conform.proofs.CastLemmas.{kept}
use Rattle.edl_conform.proofs.JudgeLemmas.{stands_near}
use Rattle.edl_conform.proofs.child_reasons.is_bad_lap.Goals as goal

pub returns : goal.returns
returns c =
    let near = (stands_near c.args.seat.now c.requires.seated).start in
    let start : to_z w128 (of_z w128 c.args.seat.now.start) ≡ c.args.seat.now.start =
    omega (arith, ints, near.low, near.high) in
    let b = kept 1411200000000000000000000 c.begin_at.result
    (omega arith) c.begin_at.ensures.range in
    let e = kept 1411200000000000000000000 c.end_at.result (omega arith) c.end_at.ensures.range in
    let t = kept 1411200000000000000000000 c.ticks_of.result
    (omega arith) c.ticks_of.ensures.range in
    let fits : FitsSigned w128 c.args.seat.now.past.low = search rules in
    let l = to_z-of_z w128 c.args.seat.now.past.low fits in
    let fit : FitsSigned w128 c.end_behind.result = search rules in
    let f = to_z-of_z w128 c.end_behind.result fit in
    let is = c.args.job.now.ticks_are in
    let short = c.args.job.now.short in
    let long = c.args.job.now.long in
    let n : to_z w128 (of_z w128 (pos 999 *ℤ to_z w128 (of_z w128 c.args.job.now.ticks)))
    ≡ pos 999 *ℤ c.args.job.now.ticks = omega (arith, ints, short, long) in
    c.any_of-2.ensures ∙ ap₂ (λ (x y : Bool). x || y)
    (c.is_less.ensures
    ∙ ap₂ int_lt
    (b ∙ c.begin_at.ensures.value ∙ ap (λ (z : ℤ). z -ℤ c.args.overlap.before) start) l)
    (c.any_of.ensures ∙ ap₂ (λ (x y : Bool). x || y)
    (c.is_less-2.ensures
    ∙ ap₂ int_lt (f ∙ c.end_behind.ensures)
    (e ∙ c.end_at.ensures.value ∙ ap (λ (z : ℤ). z +ℤ c.args.overlap.after) start))
    (c.is_less-3.ensures
    ∙ ap₂ int_lt (n ∙ ap (λ (z : ℤ). pos 999 *ℤ z) is) (t ∙ c.ticks_of.ensures.value)))

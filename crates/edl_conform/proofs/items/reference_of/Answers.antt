use Rattle.std.proofs.Common.{arith, rules, to_z, of_z, ◌≡◌, subst, ◌∙◌, FitsSigned}
use Rattle.std.specs.Int.{w64}
use Rattle.std.proofs.lemmas.Int.{ints}
use Rattle.edl_frames.specs.Conformed.{IsSpanOf}
use Rattle.edl_conform.proofs.ItemSteps.{as_external}
use Rattle.edl_conform.proofs.items.reference_of.Goals as goal

pub returns-in_ok-of-in-Some : goal.returns-in_ok-of-in-Some
returns-in_ok-of-in-Some c =
    let row = c.in-Some.row.now in
    let rate = row.rate in
    let made = c.span.result in
    let a : FitsSigned w64 row.start = search rules in
    let b : FitsSigned w64 row.count = search rules in
    let x : to_z w64 (of_z w64 row.start) ≡ row.start = omega (arith, ints, a) in
    let y : to_z w64 (of_z w64 row.count) ≡ row.count = omega (arith, ints, b) in
    rw c.in-Some.is (
      made,
      subst (λ n. IsSpanOf rate n row.count made) x
          (subst (λ n. IsSpanOf rate (to_z w64 (of_z w64 row.start)) n made) y c.span.ensures),
      as_external _ _ _ _ made row.url c.new.ensures c.empty.ensures
          (c.in_ok-of-in-Some.ensures ∙ c.as_str.ensures) c.new-in-Some.ensures,
    )

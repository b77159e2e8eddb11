use Rattle.std.proofs.Common.{◌≡◌, ap₂, ◌∙◌, pos, ◌+ℤ◌, ◌-ℤ◌, ◌*ℤ◌, ◌==◌, ◌&&◌, unsigned_abs, to_z, of_z, arith, rules, FitsSigned}
use Rattle.std.specs.Int.{w64}
use Rattle.std.proofs.lemmas.Int.{ints}
use Rattle.edl_list.specs.Speeds.{side_speed}
use Rattle.std.specs.Ordering.{int_eq}
use Rattle.edl_conform.proofs.outgoing_side.goes_on.Goals as goal

pub has_come-requires-clause-count : goal.has_come-requires-clause-count
has_come-requires-clause-count c =
    let e = c.args.before.now in
    let o : FitsSigned w64 e.rec_out = search rules in
    let q : FitsSigned w64 e.rec_in = search rules in
    let low = c.requires.before.long.low in
    let high = c.requires.before.long.high in
    let long : to_z w64 (of_z w64 (to_z w64 (of_z w64 e.rec_out) -ℤ to_z w64 (of_z w64 e.rec_in))) ≡ e.rec_out -ℤ e.rec_in = omega (arith, ints, o, q, low, high) in
    record { low = omega (arith, ints, long, low); high = omega (arith, ints, long, high) }

pub returns : goal.returns
returns c =
    let e = c.args.before.now in let s = c.args.side.now in
    let at_in = c.ranges.at in
    let slow = c.requires.before.to.slow in let side_slow = c.requires.side.slow in
    let o : FitsSigned w64 e.rec_out = search rules in
    let i : FitsSigned w64 e.to.src_in = search rules in
    let t : FitsSigned w64 s.src_in = search rules in
    let count = c.requires.before.long in let low = count.low in let high = count.high in
    let own = c.side_speed-speed.ensures in let of_side = c.side_speed.ensures in
    let out : to_z w64 (of_z w64 e.rec_out) ≡ e.rec_out = omega (arith, ints, o) in
    let at : to_z w64 (of_z w64 c.args.at) ≡ c.args.at = omega (arith, ints, at_in) in
    let speed : to_z w64 (of_z w64 c.side_speed-speed.result) ≡ pos (side_speed c.args.rate e.to) = omega (arith, ints, own, slow) in
    let other : to_z w64 (of_z w64 c.side_speed.result) ≡ pos (side_speed c.args.rate s) = omega (arith, ints, of_side, side_slow) in
    let from : to_z w64 (of_z w64 e.to.src_in) ≡ e.to.src_in = omega (arith, ints, i) in
    let to : to_z w64 (of_z w64 s.src_in) ≡ s.src_in = omega (arith, ints, t) in
    let q : FitsSigned w64 e.rec_in = search rules in
    let long : to_z w64 (of_z w64 (to_z w64 (of_z w64 e.rec_out) -ℤ to_z w64 (of_z w64 e.rec_in))) ≡ e.rec_out -ℤ e.rec_in = omega (arith, ints, o, q, low, high) in
    c.all_four.ensures
    ∙ ap₂ (λ a b. a && b) (c.is_same.ensures ∙ ap₂ int_eq out at)
    (ap₂ (λ a b. a && b) c.is_same_reel.ensures
    (ap₂ (λ a b. a && b) (c.is_same_speed.ensures ∙ ap₂ (λ a b. unsigned_abs a == unsigned_abs b) speed other)
    (c.has_come.ensures ∙ (λ k. int_eq ((from k *ℤ pos 1000000) +ℤ (long k *ℤ speed k)) (to k *ℤ pos 1000000)))))

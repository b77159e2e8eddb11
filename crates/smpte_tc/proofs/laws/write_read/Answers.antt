-- What is written is the label that was read.
use Rattle.std.proofs.Common.{◌≡◌, ℤ, Bool, subst, arith, to_z, of_z, w64}
use Rattle.std.proofs.lemmas.Int.{ints}
use Rattle.smpte_tc.specs.Modes.{mode_of}
use Rattle.smpte_tc.specs.Answers.{means_drop, WritesAt}
use Rattle.smpte_tc.proofs.RoundTrip.{write_back, read_small}
use Rattle.smpte_tc.proofs.laws.write_read.Goals as goal

pub returns-in-Ok : goal.returns-in-Ok
returns-in-Ok c =
    let drop = means_drop c.args.bytes.now c.args.drop in
    let small = read_small c.args.rate drop c.in-Ok.n c.args.bytes.now c.in-Ok.ensures in
    let same : to_z w64 (of_z w64 c.in-Ok.n) ≡ c.in-Ok.n = omega (arith, ints, small.1.is, small.1.small) in
    write_back c.args.rate drop c.in-Ok.n c.args.bytes.now c.label.result c.in-Ok.ensures
    (subst (λ (n : ℤ). WritesAt (mode_of c.args.rate drop) n c.label.result) same
    (subst (λ (d : Bool). WritesAt (mode_of c.args.rate d) (to_z w64 (of_z w64 c.in-Ok.n)) c.label.result) c.means_drop.ensures c.label.ensures))

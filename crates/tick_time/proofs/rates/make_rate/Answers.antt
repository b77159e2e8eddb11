use Rattle.std.proofs.Common.{◌≡◌, arith, pos, to_z, w64}
use Rattle.std.proofs.lemmas.Int.{to_z_pos}
use Rattle.tick_time.proofs.rates.make_rate.Goals as goal

pub invariant_of-result-clause-whole : goal.invariant_of-result-clause-whole
invariant_of-result-clause-whole c =
    let num : to_z w64 c.args.num ≡ pos c.args.num = to_z_pos w64 c.args.num (omega arith) in
    let den : to_z w64 c.args.den ≡ pos c.args.den = to_z_pos w64 c.args.den (omega arith) in
    simp (num, den) c.requires.whole

pub invariant_of-result-clause-lowest : goal.invariant_of-result-clause-lowest
invariant_of-result-clause-lowest c =
    let num : to_z w64 c.args.num ≡ pos c.args.num = to_z_pos w64 c.args.num (omega arith) in
    let den : to_z w64 c.args.den ≡ pos c.args.den = to_z_pos w64 c.args.den (omega arith) in
    simp (num, den) c.requires.lowest

pub invariant_of-result-clause-given : goal.invariant_of-result-clause-given
invariant_of-result-clause-given c =
    let num : to_z w64 c.args.num ≡ pos c.args.num = to_z_pos w64 c.args.num (omega arith) in
    let den : to_z w64 c.args.den ≡ pos c.args.den = to_z_pos w64 c.args.den (omega arith) in
    simp (num, den) c.requires.given

use Rattle.std.proofs.Common.{◌≡◌, [], length, arith, sym}
use Rattle.sequences.specs.Pairs.{names_of}
use Rattle.sequences.specs.Places.{add_names}
use Rattle.sequences.proofs.PairLemmas.{merged-new}
use Rattle.sequences.proofs.merging.merge.Goals as goal

pub returns-then-count-len : goal.returns-then-count-len
returns-then-count-len g c =
    let counted = rw c.as_slice-2.ensures.value at c.in_ok-places.ensures.count in
    let all : length (add_names [] (names_of c.args.pairs.items)) ≡ length c.args.pairs.items = omega (arith, counted, c.if-count-len.true, c.len-2.ensures) in
    sym (merged-new c.args.pairs.items all)

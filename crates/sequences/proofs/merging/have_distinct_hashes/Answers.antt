use Rattle.std.proofs.Common.{◌≡◌, ◌∙◌, map, take, ap, sym, arith}
use Rattle.std.proofs.lemmas.List.{take_all}
use Rattle.sequences.specs.Pairs.{names_of}
use Rattle.sequences.specs.Hashes.{hash_of}
use Rattle.sequences.proofs.HashLemmas.{merged-distinct, hashes-more}
use Rattle.sequences.proofs.merging.have_distinct_hashes.Goals as goal

pub loop-pair-preserved : goal.loop-pair-preserved
loop-pair-preserved g c =
    let more = hashes-more hash_of c.args.pairs.now c.loop-pair.pair-index c.pair-item.result (omega arith) c.pair-item.is in
    rw (c.in_ok-push.ensures.items, c.hash_of.ensures, c.as_bytes.ensures.value, c.as_str.ensures, c.loop-pair.invariant) (sym more)

pub returns : goal.returns
returns g c = λ rising.
    let all : take c.loop-pair.pair-index c.args.pairs.now ≡ c.args.pairs.now = take_all c.loop-pair.pair-index c.args.pairs.now (omega arith) in
    let hashes = c.loop-pair.invariant ∙ ap (λ ps. map hash_of (names_of ps)) all in
    merged-distinct hash_of c.args.pairs.now c.loop-pair.hashes.items c.sort_unstable.new.self.items hashes c.sort_unstable.ensures.permutation (rw c.as_slice.ensures.value at c.is_rising.ensures rising)

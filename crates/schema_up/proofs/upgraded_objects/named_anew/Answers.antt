use Rattle.std.proofs.Common.{arith, ap, sym, ◌∙◌, length}
use Rattle.schema_up.specs.Upgrades.{named_anew}
use Rattle.schema_up.proofs.MemberLemmas.{named_nowhere, named_at, distinct_anew}
use Rattle.schema_up.proofs.upgraded_objects.named_anew.Goals as goal

pub of-requires : goal.of-requires
of-requires c = rw c.into_vec-pairs.ensures.pairs c.into_vec-pairs.ensures.distinct

pub returns-then-place-len : goal.returns-then-place-len
returns-then-place-len c =
    let long = ap length c.into_vec-pairs.ensures.pairs in
    c.of.ensures ∙ c.into_vec-pairs.ensures.pairs ∙ sym (named_nowhere c.args.old.now c.args.new c.args.members (omega (arith, long, c.place_of-place.ensures.place)))

pub of-requires-2 : goal.of-requires-2
of-requires-2 c =
    let is = named_at c.args.old.now c.args.new c.into_vec-pairs.result.items c.place_of-place.result c.index_mut-pair.result.now (rw c.into_vec-pairs.ensures.pairs c.place_of-place.ensures.place) (omega arith) c.index_mut-pair.ensures.value in
    rw is (distinct_anew c.args.old.now c.args.new c.into_vec-pairs.result.items (rw c.into_vec-pairs.ensures.pairs c.requires) (rw c.into_vec-pairs.ensures.pairs c.into_vec-pairs.ensures.distinct))

pub returns : goal.returns
returns c =
    let is = named_at c.args.old.now c.args.new c.into_vec-pairs.result.items c.place_of-place.result c.index_mut-pair.result.now (rw c.into_vec-pairs.ensures.pairs c.place_of-place.ensures.place) (omega arith) c.index_mut-pair.ensures.value in
    c.of-2.ensures ∙ is ∙ ap (named_anew c.args.old.now c.args.new) c.into_vec-pairs.ensures.pairs

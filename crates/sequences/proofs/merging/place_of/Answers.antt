use Rattle.std.proofs.Common.{sym, ap, ◌∙◌}
use Rattle.std.specs.Str.{bytes_eq}
use Rattle.sequences.proofs.MergeEnds.{place-here, place-behind, place-end}
use Rattle.sequences.proofs.merging.place_of.Goals as goal

pub returns-then-eq : goal.returns-then-eq
returns-then-eq g c =
    let same = sym (c.eq.ensures ∙ ap (bytes_eq c.args.name.now) c.as_str.ensures)
    ∙ c.if-eq.true in
    place-here c.args.name.now c.args.pairs.now c.loop-index.index c.index-pairs-index.result _
    c.loop-index-test.true c.index-pairs-index.is same c.loop-index.invariant

pub loop-index-preserved : goal.loop-index-preserved
loop-index-preserved g c =
    let other = sym (c.eq.ensures ∙ ap (bytes_eq c.args.name.now) c.as_str.ensures)
    ∙ c.if-eq.false in
    place-behind c.args.name.now c.args.pairs.now c.loop-index.index c.index-pairs-index.result _
    c.loop-index-test.true c.index-pairs-index.is other c.loop-index.invariant

pub returns : goal.returns
returns g c =
    place-end c.args.name.now c.args.pairs.now c.loop-index.index _
    c.loop-index-test.false c.loop-index.auto.index-end c.loop-index.invariant

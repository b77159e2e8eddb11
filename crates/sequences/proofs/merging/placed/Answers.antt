use Rattle.std.proofs.Common.{refl, arith}
use Rattle.std.proofs.lemmas.Result.{IfOk-from_err}
use Rattle.sequences.proofs.PairLemmas.{placed-more}
use Rattle.sequences.proofs.MergeEnds.{placed-end}
use Rattle.sequences.proofs.merging.placed.Goals as goal

pub returns-in_err-kept : goal.returns-in_err-kept
returns-in_err-kept g c = IfOk-from_err _ _ c.from_residual.ensures.0

pub loop-index-init : goal.loop-index-init
loop-index-init g c =
    rw (
      c.into_iter-index-iterator.ensures.into_iter_gives,
      c.enumerate-index-items.ensures.source,
      c.enumerate-index-items.ensures.count,
      c.into_iter.ensures.rest,
      c.in_ok-kept.ensures.items,
    )
    (refl, c.requires)

pub offset_bounds-places-index : goal.offset_bounds-places-index
offset_bounds-places-index g c =
    let steps = c.in-Some.ensures.steps in
    let more = placed-more c.loop-index.kept.items _ _ c.in-Some.name c.in-Some.value
    c.args.places.now _ steps.0.0 c.loop-index.invariant.1 in
    omega (arith, more.0, steps.1)

pub bounds-places-index : goal.bounds-places-index
bounds-places-index g c =
    let steps = c.in-Some.ensures.steps in
    let more = placed-more c.loop-index.kept.items _ _ c.in-Some.name c.in-Some.value c.args.places.now _ steps.0.0 c.loop-index.invariant.1 in
    rw steps.1 more.0

pub put_at-requires : goal.put_at-requires
put_at-requires g c =
    let steps = c.in-Some.ensures.steps in
    let more = placed-more c.loop-index.kept.items _ _ c.in-Some.name c.in-Some.value c.args.places.now _ steps.0.0 c.loop-index.invariant.1 in
    rw steps.1 more.1

pub loop-index-preserved : goal.loop-index-preserved
loop-index-preserved g c =
    let steps = c.in-Some.ensures.steps in
    let more = placed-more c.loop-index.kept.items _ _ c.in-Some.name c.in-Some.value c.args.places.now _ steps.0.0 c.loop-index.invariant.1 in
    let kept = rw steps.0.0 at c.loop-index.invariant.0 in
    (rw c.in_ok-put_at.ensures.put kept, rw (steps.2, c.in_ok-put_at.ensures.put) more.2)

pub returns-in_err-put_at : goal.returns-in_err-put_at
returns-in_err-put_at g c = IfOk-from_err _ _ c.from_residual-in_err-put_at.ensures.0

pub returns : goal.returns
returns g c =
    let rest = c.loop-index.index-iterator.iter.rest in
    placed-end c.loop-index.kept.items rest.items _ rest.len rest.ok.0
    c.in-None.ensures.steps.0.0 c.loop-index.invariant.0

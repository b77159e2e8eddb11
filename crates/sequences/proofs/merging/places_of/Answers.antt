use Rattle.std.proofs.Common.{◌<◌, length, arith, refl, ap, ◌∙◌, []}
use Rattle.std.proofs.lemmas.List.{take_all}
use Rattle.std.proofs.lemmas.Result.{IfOk-from_err}
use Rattle.sequences.specs.Pairs.{names_of}
use Rattle.sequences.specs.Places.{add_names}
use Rattle.sequences.proofs.MergeEnds.{none_known, places-end}
use Rattle.sequences.proofs.PairLemmas.{known_by, known_by-more, places_in-more}
use Rattle.sequences.proofs.merging.places_of.Goals as goal

pub returns-in_err-found-clause-places : goal.returns-in_err-found-clause-places
returns-in_err-found-clause-places g c = IfOk-from_err _ _ c.from_residual.ensures.0

pub returns-in_err-found-clause-count : goal.returns-in_err-found-clause-count
returns-in_err-found-clause-count g c = IfOk-from_err _ _ c.from_residual.ensures.0

pub loop-pair-init : goal.loop-pair-init
loop-pair-init g c = (
  rw c.in_ok-found.ensures.items refl,
  none_known c.new-known.result c.new-known.ensures.empty c.new-known.ensures.len,
)

pub offset_bounds-pairs-pair-index : goal.offset_bounds-pairs-pair-index
offset_bounds-pairs-pair-index g c = omega arith

pub returns-in_err-place-clause-places : goal.returns-in_err-place-clause-places
returns-in_err-place-clause-places g c = IfOk-from_err _ _ c.from_residual-in_err-place.ensures.0

pub returns-in_err-place-clause-count : goal.returns-in_err-place-clause-count
returns-in_err-place-clause-count g c = IfOk-from_err _ _ c.from_residual-in_err-place.ensures.0

pub returns-in_err-push-clause-places : goal.returns-in_err-push-clause-places
returns-in_err-push-clause-places g c = IfOk-from_err _ _ c.from_residual-in_err-push.ensures.0

pub returns-in_err-push-clause-count : goal.returns-in_err-push-clause-count
returns-in_err-push-clause-count g c = IfOk-from_err _ _ c.from_residual-in_err-push.ensures.0

pub loop-pair-preserved : goal.loop-pair-preserved
loop-pair-preserved g c =
    let ps = c.args.pairs.now in
    let i = c.loop-pair.pair-index in
    let x = c.pair-item.result in
    let within : i < length ps = omega arith in
    let put = c.in_ok-place.ensures (known_by ps i) c.loop-pair.invariant.1 in
    let more = places_in-more ps i x c.loop-pair.found.items _ within c.pair-item.is c.loop-pair.invariant.0 in
    (rw (c.in_ok-push.ensures.items, put.0, c.as_str.ensures) more, rw (known_by-more ps i x within c.pair-item.is) (rw c.as_str.ensures at put.1))

pub returns-clause-places : goal.returns-clause-places
returns-clause-places g c =
    places-end c.args.pairs.now c.loop-pair.found.items _ _ c.loop-pair.pair-index
    c.loop-pair-test.false c.loop-pair.invariant.0

pub returns-clause-count : goal.returns-clause-count
returns-clause-count g c =
    let all = take_all c.loop-pair.pair-index c.args.pairs.now c.loop-pair-test.false in
    c.len.ensures.len ∙ c.loop-pair.invariant.1.count
    ∙ ap (λ pairs. length (add_names [] (names_of pairs))) all

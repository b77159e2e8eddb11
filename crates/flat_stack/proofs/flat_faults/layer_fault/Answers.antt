use Rattle.std.proofs.Common.{◌≡◌, arith, rules, sym, subst, ◌∙◌, Some, None, length}
use Rattle.otio_model.specs.Trees.{children_of, items_of}
use Rattle.coord.proofs.Members.{got_below}
use Rattle.flat.specs.Roots.{items_in}
use Rattle.flat_stack.specs.Misfits.{AreFit, IsMisfit}
use Rattle.pieces.proofs.Inner.{inner_short}
use Rattle.flat_stack.proofs.RootLemmas.{plain_items, plain_some}
use Rattle.flat_stack.proofs.MisfitLemmas.{no_track_first, not_plain_first, other_free, misfit_first, fit_free}
use Rattle.flat_stack.proofs.flat_faults.layer_fault.Goals as goal

pub returns-then-not-is_track-clause-some : goal.returns-then-not-is_track-clause-some
returns-then-not-is_track-clause-some c = rw c.nested.ensures
    (λ l e. no_track_first c.args.kind.now l c.args.track c.args.item.now e (sym c.is_track.ensures ∙ c.if-not-is_track.true))

pub returns-then-not-is_layer-clause-none : goal.returns-then-not-is_layer-clause-none
returns-then-not-is_layer-clause-none c = λ l e. other_free c.args.kind.now l c.args.track c.args.item.now e (sym c.is_track.ensures ∙ c.if-not-is_track.false) (sym c.is_layer.ensures ∙ c.if-not-is_layer.true)

pub returns-then-not-is_plain-clause-some : goal.returns-then-not-is_plain-clause-some
returns-then-not-is_plain-clause-some c = rw c.nested-then-not-is_plain.ensures
    (λ l e. not_plain_first c.args.kind.now l c.args.track c.args.item.now e (sym c.is_layer.ensures ∙ c.if-not-is_layer.false) (sym c.is_plain.ensures ∙ c.if-not-is_plain.true))

pub returns-in-Some-first_misfit-clause-near : goal.returns-in-Some-first_misfit-clause-near
returns-in-Some-first_misfit-clause-near c =
    let e : children_of c.args.item.now ≡ Some c.in-Some.children.now = first_of (cc (c.in-Some.ensures), search rules) in
    let u = c.in-Some-first_misfit.ensures.found in
    let k = got_below (items_of c.in-Some.children.now) c.in-Some-first_misfit.child u.item u.there in
    let m = inner_short c.args.item.now c.in-Some.children.now e c.requires.few in
    record { track = c.requires.near; child = omega (arith, k, m) }

pub returns-in-Some-first_misfit-clause-some : goal.returns-in-Some-first_misfit-clause-some
returns-in-Some-first_misfit-clause-some c =
    let e : children_of c.args.item.now ≡ Some c.in-Some.children.now = first_of (cc (c.in-Some.ensures), search rules) in
    let plain = (sym c.is_plain.ensures ∙ c.if-not-is_plain.false) in
    let u : IsMisfit (items_in c.args.item.now) c.in-Some-first_misfit.child c.in-Some-first_misfit.cause =
    subst (λ m. IsMisfit m c.in-Some-first_misfit.child c.in-Some-first_misfit.cause) (sym (plain_items c.args.item.now c.in-Some.children.now plain e)) c.in-Some-first_misfit.ensures.found in
    λ l f. misfit_first c.args.kind.now l c.args.track c.in-Some-first_misfit.child c.args.item.now c.in-Some-first_misfit.cause f (sym c.is_track.ensures ∙ c.if-not-is_track.false) (sym c.is_layer.ensures ∙ c.if-not-is_layer.false) plain u

pub returns-in-None-first_misfit-clause-none : goal.returns-in-None-first_misfit-clause-none
returns-in-None-first_misfit-clause-none c =
    let e : children_of c.args.item.now ≡ Some c.in-Some.children.now = first_of (cc (c.in-Some.ensures), search rules) in
    let plain = (sym c.is_plain.ensures ∙ c.if-not-is_plain.false) in
    let all : AreFit (items_in c.args.item.now) (length (items_in c.args.item.now)) =
    subst (λ m. AreFit m (length m)) (sym (plain_items c.args.item.now c.in-Some.children.now plain e)) c.in-None-first_misfit.ensures.none in
    λ l f. fit_free c.args.kind.now l c.args.track c.args.item.now f (sym c.is_track.ensures ∙ c.if-not-is_track.false) plain all

pub returns-in-None-clause-none : goal.returns-in-None-clause-none
returns-in-None-clause-none c =
    let e : children_of c.args.item.now ≡ None = first_of (cc (c.in-None.ensures), search rules) in
    absurd (plain_some c.args.item.now (sym c.is_plain.ensures ∙ c.if-not-is_plain.false) e)

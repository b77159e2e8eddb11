use Rattle.std.proofs.Common.{◌≡◌, arith, rules, sym, subst, ◌∙◌, Some, None, length, true}
use Rattle.std.proofs.lemmas.Int.{to_z-of_z}
use Rattle.otio_model.specs.Trees.{children_of, items_of}
use Rattle.coord.proofs.Members.{got_below}
use Rattle.flat.specs.Roots.{is_plain, items_in}
use Rattle.flat_stack.specs.Uncut.{AreCutTo, IsUncut}
use Rattle.flat_stack.proofs.WindowFaults.{not_plain_first, uncut_first, free_child}
use Rattle.pieces.proofs.Inner.{inner_short, inner_cuttable}
use Rattle.flat_stack.proofs.RootLemmas.{plain_items, plain_some}
use Rattle.flat_stack.proofs.window_faults.track_fault.Goals as goal

pub returns-then-not-is_plain-clause-some : goal.returns-then-not-is_plain-clause-some
returns-then-not-is_plain-clause-some c = rw c.nested.ensures
    (λ l e. not_plain_first l c.args.from c.args.to c.args.track c.args.item.now e (sym c.is_plain.ensures ∙ c.if-not-is_plain.true))

pub first_uncut-requires-clause-few : goal.first_uncut-requires-clause-few
first_uncut-requires-clause-few c =
    let e : children_of c.args.item.now ≡ Some c.in-Some.children.now = first_of (cc (c.in-Some.ensures), search rules) in
    inner_short c.args.item.now c.in-Some.children.now e c.requires.few

pub first_uncut-requires-clause-cuttable : goal.first_uncut-requires-clause-cuttable
first_uncut-requires-clause-cuttable c =
    let e : children_of c.args.item.now ≡ Some c.in-Some.children.now = first_of (cc (c.in-Some.ensures), search rules) in
    inner_cuttable c.args.item.now c.in-Some.children.now e c.requires.faultless c.requires.few

pub returns-in-Some-first_uncut-clause-near : goal.returns-in-Some-first_uncut-clause-near
returns-in-Some-first_uncut-clause-near c =
    let e : children_of c.args.item.now ≡ Some c.in-Some.children.now = first_of (cc (c.in-Some.ensures), search rules) in
    let u = c.in-Some-first_uncut.ensures.found in
    let k = got_below (items_of c.in-Some.children.now) c.in-Some-first_uncut.child u.item u.there in
    let m = inner_short c.args.item.now c.in-Some.children.now e c.requires.few in
    record { track = c.requires.near; child = omega (arith, k, m) }

pub returns-in-Some-first_uncut-clause-some : goal.returns-in-Some-first_uncut-clause-some
returns-in-Some-first_uncut-clause-some c =
    let fits_from = c.ranges.from in
    let fits_to = c.ranges.to in
    let e : children_of c.args.item.now ≡ Some c.in-Some.children.now = first_of (cc (c.in-Some.ensures), search rules) in
    let plain : is_plain c.args.item.now ≡ true = sym c.is_plain.ensures ∙ c.if-not-is_plain.false in
    let found = simp to_z-of_z at c.in-Some-first_uncut.ensures.found in
    let u : IsUncut (items_in c.args.item.now) c.args.from c.args.to c.in-Some-first_uncut.child =
    subst (λ m. IsUncut m c.args.from c.args.to c.in-Some-first_uncut.child) (sym (plain_items c.args.item.now c.in-Some.children.now plain e)) found in
    λ l f. uncut_first l c.args.from c.args.to c.args.track c.in-Some-first_uncut.child c.args.item.now f plain u

pub returns-in-None-first_uncut-clause-none : goal.returns-in-None-first_uncut-clause-none
returns-in-None-first_uncut-clause-none c =
    let fits_from = c.ranges.from in
    let fits_to = c.ranges.to in
    let e : children_of c.args.item.now ≡ Some c.in-Some.children.now = first_of (cc (c.in-Some.ensures), search rules) in
    let plain : is_plain c.args.item.now ≡ true = sym c.is_plain.ensures ∙ c.if-not-is_plain.false in
    let cut = simp to_z-of_z at c.in-None-first_uncut.ensures.none in
    let all : AreCutTo (items_in c.args.item.now) c.args.from c.args.to (length (items_in c.args.item.now)) =
    subst (λ m. AreCutTo m c.args.from c.args.to (length m)) (sym (plain_items c.args.item.now c.in-Some.children.now plain e)) cut in
    λ l f. free_child l c.args.from c.args.to c.args.track c.args.item.now f plain all

pub returns-in-None-clause-none : goal.returns-in-None-clause-none
returns-in-None-clause-none c =
    let e : children_of c.args.item.now ≡ None = first_of (cc (c.in-None.ensures), search rules) in
    let plain : is_plain c.args.item.now ≡ true = sym c.is_plain.ensures ∙ c.if-not-is_plain.false in
    absurd (plain_some c.args.item.now plain e)

use Rattle.std.proofs.Common.{◌≡◌, arith, rules, refl, sym, subst, ap, ◌∙◌, Some, None, [], length}
use Rattle.std.proofs.lemmas.Int.{to_z-of_z, ints}
use Rattle.otio_model.specs.Trees.{children_of}
use Rattle.flat.specs.Roots.{items_in}
use Rattle.flat.specs.Windowed.{stripped}
use Rattle.flat_stack.specs.Passed.{passed}
use Rattle.flat_stack.specs.Uncut.{AreCutTo}
use Rattle.pieces.proofs.Inner.{inner_short, inner_cuttable}
use Rattle.flat_stack.proofs.RootLemmas.{plain_items, plain_some}
use Rattle.flat_stack.proofs.PassedLemmas.{window_early, window_made, plain_ticks}
use Rattle.flat_stack.proofs.windowing.track_items.Goals as goal

pub sound_ticks-requires : goal.sound_ticks-requires
sound_ticks-requires c = record { few = c.requires.few; sound = c.requires.faultless [] c.args.item.now refl }

pub returns-then-sound_ticks-from : goal.returns-then-sound_ticks-from
returns-then-sound_ticks-from c =
    let fits = c.ranges.from in
    let fault = c.requires.faultless [] c.args.item.now refl in
    window_early c.args.rate c.args.from c.args.to c.sound_ticks.result (items_in c.args.item.now) (c.sound_ticks.ensures.value ∙ plain_ticks c.args.item.now c.requires.plain fault) (omega (arith, ints, c.sound_ticks.ensures.low, c.sound_ticks.ensures.high))
    ∙ ap Some (sym c.new.ensures.items)

pub window_items-requires-clause-few : goal.window_items-requires-clause-few
window_items-requires-clause-few c =
    let e : children_of c.args.item.now ≡ Some c.in-Some.children.now = first_of (cc (c.in-Some.ensures), search rules) in
    inner_short c.args.item.now c.in-Some.children.now e c.requires.few

pub window_items-requires-clause-cuttable : goal.window_items-requires-clause-cuttable
window_items-requires-clause-cuttable c =
    let e : children_of c.args.item.now ≡ Some c.in-Some.children.now = first_of (cc (c.in-Some.ensures), search rules) in
    inner_cuttable c.args.item.now c.in-Some.children.now e c.requires.faultless c.requires.few

pub window_items-requires-clause-cut : goal.window_items-requires-clause-cut
window_items-requires-clause-cut c =
    let fits = c.ranges.from in
    let fits_to = c.ranges.to in
    let e : children_of c.args.item.now ≡ Some c.in-Some.children.now = first_of (cc (c.in-Some.ensures), search rules) in
    simp to_z-of_z (subst (λ m. AreCutTo m c.args.from c.args.to (length m)) (plain_items c.args.item.now c.in-Some.children.now c.requires.plain e) c.requires.cut)

pub returns-in-None : goal.returns-in-None
returns-in-None c =
    let e : children_of c.args.item.now ≡ None = first_of (cc (c.in-None.ensures), search rules) in
    absurd (plain_some c.args.item.now c.requires.plain e)

pub returns-in_ok-items-in-Some : goal.returns-in_ok-items-in-Some
returns-in_ok-items-in-Some c =
    let fits = c.ranges.from in
    let fits_to = c.ranges.to in
    let e : children_of c.args.item.now ≡ Some c.in-Some.children.now = first_of (cc (c.in-Some.ensures), search rules) in
    let fault = c.requires.faultless [] c.args.item.now refl in
    let made = simp to_z-of_z at c.in_ok-items-in-Some.ensures in
    window_made c.args.rate c.args.from c.args.to c.sound_ticks.result (items_in c.args.item.now) c.in_ok-items-in-Some.items.items (c.sound_ticks.ensures.value ∙ plain_ticks c.args.item.now c.requires.plain fault) (omega (arith, ints, c.sound_ticks.ensures.low, c.sound_ticks.ensures.high))
    (subst (λ m. passed c.args.rate c.args.from c.args.to (stripped m c.args.from c.args.to) ≡ Some c.in_ok-items-in-Some.items.items) (sym (plain_items c.args.item.now c.in-Some.children.now c.requires.plain e)) made)

-- What is known of the parts of a flat track, and the items that they become.
use mathlib.Core.Path.{Path}
use mir.Syntax.{w128}
use Rattle.std.proofs.Common.{◌≡◌, refl, sym, subst, ap, ap₂, ◌∙◌, ℕ, zero, suc, ℤ, pos, ◌-ℤ◌, ◌≤ℤ◌, ◌<ℤ◌, ◌&&◌, ◌||◌, Bool, true, false, Option, Some, None, cond, List, [], ◌∷◌, ◌++◌, append_assoc, take, map, arith, FitsSigned}
use Rattle.std.specs.Prelude.{slice_get, int_lt, option_and_then}
use Rattle.std.proofs.lemmas.Int.{ints}
use Rattle.std.proofs.lemmas.List.{append-nil}
use Rattle.tick_time.specs.declared.rates.Rate.{Rate}
use Rattle.otio_model.specs.declared.compositions.ItemOf.{ItemOf}
use Rattle.otio_model.specs.declared.compositions.ItemOf.TheVariants.{Clip, Gap, Transition, Stack, Track}
use Rattle.otio_model.specs.declared.compositions.Listed.{Listed}
use Rattle.otio_model.specs.declared.timelines.Timeline.{Timeline}
use Rattle.otio_model.specs.Timelines.{bare}
use Rattle.otio_model.specs.Trees.{items_of, is_transition}
use Rattle.coord.specs.Soundness.{AreFaultless, IsFaultlessItem}
use Rattle.edits.specs.Children.{ticks, made, new_gap, with_first}
use Rattle.edits.specs.After.{rate_of}
use Rattle.edits_law.proofs.Parted.{added_low}
use Rattle.flat.specs.Roots.{is_of, is_enabled, is_layer, is_track, items_in, roots, with_roots}
use Rattle.flat.specs.Pieces.{Giver, giver, longest, Piece, AreLongest, no_more, one_more, up_to, from_on, piece_item, piece_items, cuts_at}
use Rattle.flat.specs.Flattened.{flat_track, has_kind, in_place, put_flat, IsFlattened, changed}
use Rattle.flat_law.proofs.Built.{given_start}
use Rattle.flat_law.proofs.Exists.{sound_one}
use Rattle.flat_law.proofs.Firsts.{giver_at}
use Rattle.flat_law.proofs.Givers.{giver_given}
use Rattle.std.proofs.lemmas.Bool.{and_parts}
use Rattle.coord.proofs.Members.{same_some}
use Rattle.flat_law.proofs.WindowKept.{own_sound, ticks_is}
use Rattle.flat_stack.specs.declared.stretches.Given.{Given}
use Rattle.flat_stack.specs.declared.same_clips.Part.{Part}
use Rattle.flat_stack.specs.Runs.{giver_of, given_of, item_in, piece_of}
use Rattle.flat_stack.specs.Parts.{IsChildOf, IsGivenBy, IsPart, AreParts, AreAll, AreMade}
use Rattle.flat_stack.specs.Placed.{IsFirstOf}
use Rattle.flat_stack.proofs.RefusalLemmas.{child_item, given_is}
use Rattle.pieces.proofs.Inner.{root_faultless}
use Rattle.flat_stack.proofs.CopyLemmas.{head_is, tail_is}

-- ---- how long the longest track is

long_one : (kind : List ℕ) (x : ItemOf Listed) → IsFaultlessItem x → is_layer kind x ≡ true
    → ticks x ≤ℤ pos 705600000000000000000000
long_one kind x s e =
    let one = sound_one x (none x e) (own_sound x s) in
    let n = ticks_is x one.ticks one.length in
    let k = one.short in omega (arith, ints, n, k)
  where
    none : (y : ItemOf Listed) → is_layer kind y ≡ true → is_transition y ≡ false
    none (Clip c) f = refl
    none (Gap c) f = refl
    none (Transition c) f = absurd (cc f)
    none (Stack c) f = refl
    none (Track c) f = refl

longest_most : (kind : List ℕ) (l : List (ItemOf Listed))
    → ((i : ℕ) (x : ItemOf Listed) → slice_get l i ≡ Some x → IsFaultlessItem x)
    → longest kind l ≤ℤ pos 705600000000000000000000
longest_most kind [] s = omega (arith, ints)
longest_most kind (x ∷ l) s = of (is_layer kind x) refl (longest_most kind l (λ i y e. s (suc i) y e))
  where
    pick : (c : Bool) → ticks x ≤ℤ pos 705600000000000000000000
        → longest kind l ≤ℤ pos 705600000000000000000000
        → cond c (ticks x) (longest kind l) ≤ℤ pos 705600000000000000000000
    pick true h k = h
    pick false h k = k

    of : (b : Bool) → is_layer kind x ≡ b → longest kind l ≤ℤ pos 705600000000000000000000
        → cond (b && int_lt (longest kind l) (ticks x)) (ticks x) (longest kind l)
        ≤ℤ pos 705600000000000000000000
    of true e h = pick (int_lt (longest kind l) (ticks x)) (long_one kind x (s 0 x refl) e) h
    of false e h = h

-- ---- the parts

layer_track : (kind : List ℕ) (x : ItemOf Listed) → is_layer kind x ≡ true → is_track x ≡ true
layer_track kind x e = of x (and_parts (is_enabled x) (is_of kind x) e).1
  where
    of : (y : ItemOf Listed) → is_of kind y ≡ true → is_track y ≡ true
    of (Clip c) f = absurd (cc f)
    of (Gap c) f = absurd (cc f)
    of (Transition c) f = absurd (cc f)
    of (Stack c) f = absurd (cc f)
    of (Track c) f = refl

-- a stretch of one clip lies in its time
clip_known : (kind : List ℕ) (l : List (ItemOf Listed)) (p : Part) (g : Given) → p.from <ℤ p.to
    → ((w : ℤ) → p.from ≤ℤ w → w <ℤ p.to → giver 0 kind l w ≡ Some (giver_of l g))
    → IsGivenBy l p g
clip_known kind l p g h same =
    let here = same p.from (omega (arith, ints)) h in
    let last = same (p.to -ℤ pos 1) (omega (arith, ints, h)) (omega (arith, ints)) in
    let first = giver_given 0 kind l p.from (giver_of l g) here in
    let end = giver_given 0 kind l (p.to -ℤ pos 1) (giver_of l g) last in
    let at = giver_at 0 kind l p.from (giver_of l g) here in
    let start = given_start 0 kind l p.from (giver_of l g) here in
    let index = at.track in
    let low = added_low (take g.child (items_in start.1)) in
    let from = start.4 in
    let until = end.to in
    record {
      item = item_in (slice_get l g.track) g.child;
      at = record {
        root = at.of;
        there = ap (slice_get l) (let e : g.track ≡ at.at = omega (arith, index) in e) ∙ at.root;
        is = layer_track kind at.of at.layer;
        inner = at.there;
      };
      low = omega (arith, ints, low, from);
      from = first.from;
      to = omega (arith, ints, until);
    }

part_known : (kind : List ℕ) (l : List (ItemOf Listed)) (p : Part) (at to : ℤ) (o : Option Giver)
    → Path Piece (piece_of l p) (record { from = at; to = to; of = o }) → pos 0 ≤ℤ at → at <ℤ to
    → to ≤ℤ pos 705600000000000000000000
    → ((w : ℤ) → at ≤ℤ w → w <ℤ to → giver 0 kind l w ≡ o) → IsPart l p
part_known kind l p at to o e low wide high same =
    let from_is : p.from ≡ at = ap (λ (q : Piece). q.from) e in
    let to_is : p.to ≡ to = ap (λ (q : Piece). q.to) e in
    let of_is : given_of l p.given ≡ o = ap (λ (q : Piece). q.of) e in
    let long : p.from <ℤ p.to = omega (arith, ints, from_is, to_is, wide) in
    record {
      low = omega (arith, ints, from_is, low);
      wide = long;
      high = omega (arith, ints, to_is, high);
      given = λ g f. clip_known kind l p g long (λ w h k.
          same w (omega (arith, ints, from_is, h)) (omega (arith, ints, to_is, k))
          ∙ sym of_is ∙ ap (given_of l) f);
    }

no_piece : (a : Piece) (l : List Piece) → a ∷ l ≡ [] → ⊥
no_piece a l e = cc e

known : (kind : List ℕ) (l : List (ItemOf Listed)) (end at : ℤ) (m : List Piece) (parts : List Part)
    → AreLongest (giver 0 kind l) end at m → map (piece_of l) parts ≡ m → pos 0 ≤ℤ at
    → end ≤ℤ pos 705600000000000000000000 → AreParts l parts
known kind l end at m [] a e low high i p there = absurd (cc there)
known kind l end _ _ (q ∷ parts) (no_more at m x y) e low high i p there =
    absurd (no_piece (piece_of l q) (map (piece_of l) parts) (e ∙ y))
known kind l end _ _ (q ∷ parts) (one_more at to o rest m h k same diff more y) e low high zero p there =
    subst (IsPart l) (same_some q p there)
    (part_known kind l q at to o
    (head_is (piece_of l q) (record { from = at; to = to; of = o }) (map (piece_of l) parts) rest (e ∙ y))
    low h (omega (arith, ints, k, high)) same)
known kind l end _ _ (q ∷ parts) (one_more at to o rest m h k same diff more y) e low high (suc i) p there =
    known kind l end to rest parts more
    (tail_is (piece_of l q) (record { from = at; to = to; of = o }) (map (piece_of l) parts) rest (e ∙ y))
    (omega (arith, ints, low, h)) high i p there

pub parts_known : (kind : List ℕ) (l : Listed) (parts : List Part) → AreAll kind (items_of l) parts
    → AreFaultless l → AreParts (items_of l) parts
parts_known kind l parts all s =
    known kind (items_of l) (longest kind (items_of l)) (pos 0) (map (piece_of (items_of l)) parts) parts all refl
    (omega (arith, ints)) (longest_most kind (items_of l) (λ i x e. root_faultless l i x s e))

-- ---- the item that a part becomes

pub gap_is : (r : Rate) (l : List (ItemOf Listed)) (p : Part) (n : ℤ) (y : ItemOf Listed)
    → p.given ≡ None → n ≡ p.to -ℤ p.from → made r (new_gap n) ≡ Some y
    → piece_item r (piece_of l p) ≡ Some y
gap_is r l p n y e f m =
    ap (λ o. elim o [
      | None ↦ made r (new_gap (p.to -ℤ p.from))
      | Some g ↦ option_and_then (from_on r (p.from -ℤ g.start)) (up_to r (p.to -ℤ g.start) g.item)
    ]) (ap (given_of l) e)
    ∙ ap (λ z. made r (new_gap z)) (sym f) ∙ m

pub clip_is : (r : Rate) (l : List (ItemOf Listed)) (p : Part) (g : Given) (x y : ItemOf Listed)
    → p.given ≡ Some g → IsChildOf l g.track g.child x
    → option_and_then (from_on r (p.from -ℤ g.start)) (up_to r (p.to -ℤ g.start) x) ≡ Some y
    → piece_item r (piece_of l p) ≡ Some y
clip_is r l p g x y e h m =
    ap (λ o. elim o [
      | None ↦ made r (new_gap (p.to -ℤ p.from))
      | Some g ↦ option_and_then (from_on r (p.from -ℤ g.start)) (up_to r (p.to -ℤ g.start) g.item)
    ]) (given_is l p g e)
    ∙ ap (λ z. option_and_then (from_on r (p.from -ℤ g.start)) (up_to r (p.to -ℤ g.start) z))
    (child_item l g.track g.child x h)
    ∙ m

-- its ends, counted from the start of its clip, and its length fit 128 bits
pub ends_fit : {l : List (ItemOf Listed)} {p : Part} {g : Given} → IsPart l p → IsGivenBy l p g
    → FitsSigned w128 (p.from -ℤ g.start) × FitsSigned w128 (p.to -ℤ g.start)
ends_fit {p = p} {g} h k = (
  omega (arith, ints, k.low, k.from, h.wide, h.high),
  omega (arith, ints, k.low, k.from, h.wide, h.high),
)

pub length_fits : {l : List (ItemOf Listed)} {p : Part} → IsPart l p
    → FitsSigned w128 (p.to -ℤ p.from)
length_fits {p = p} h = omega (arith, ints, h.low, h.wide, h.high)

-- its clip can be cut at both ends
pub both_cut : (l : List (ItemOf Listed)) (p : Part) (g : Given) (x : ItemOf Listed)
    → p.given ≡ Some g → IsChildOf l g.track g.child x
    → ((q : Giver) → (piece_of l p).of ≡ Some q → Rattle.flat.specs.Pieces.is_cut (piece_of l p) q ≡ true)
    → (cuts_at x (p.from -ℤ g.start) ≡ true) × (cuts_at x (p.to -ℤ g.start) ≡ true)
both_cut l p g x e h cut =
    and_parts (cuts_at x (p.from -ℤ g.start)) (cuts_at x (p.to -ℤ g.start))
    (ap (λ z. cuts_at z (p.from -ℤ g.start) && cuts_at z (p.to -ℤ g.start))
    (sym (child_item l g.track g.child x h)) ∙ cut (giver_of l g) (given_is l p g e))

-- ---- the loop over the parts

pub made_first : (r : Rate) (l done : List (ItemOf Listed)) (parts : List Part) → done ≡ []
    → AreMade r l done parts parts
made_first r l done parts e m f = f ∙ ap (λ d. Some (d ++ m)) (sym e)

pub made_more : (r : Rate) (l done new : List (ItemOf Listed)) (rest more parts : List Part)
    (p : Part) (y : ItemOf Listed) → AreMade r l done rest parts → rest ≡ p ∷ more
    → piece_item r (piece_of l p) ≡ Some y → new ≡ done ++ y ∷ [] → AreMade r l new more parts
made_more r l done new rest more parts p y w e f n m g =
    w (y ∷ m) (ap (λ q. piece_items r (map (piece_of l) q)) e ∙ ap₂ with_first f g)
    ∙ ap Some (sym (append_assoc done (y ∷ []) m) ∙ ap (λ d. d ++ m) (sym n))

pub made_all : (r : Rate) (l done : List (ItemOf Listed)) (rest parts : List Part)
    → AreMade r l done rest parts → rest ≡ []
    → piece_items r (map (piece_of l) parts) ≡ Some done
made_all r l done rest parts w e =
    w [] (ap (λ q. piece_items r (map (piece_of l) q)) e) ∙ ap Some (append-nil done)

-- ---- the timeline

some_kind : (kind : List ℕ) (l : List (ItemOf Listed)) (i : ℕ) (x : ItemOf Listed)
    → slice_get l i ≡ Some x → is_of kind x ≡ true → has_kind kind l ≡ true
some_kind kind [] i x e f = absurd (cc e)
some_kind kind (y ∷ l) zero x e f =
    let g : is_of kind y ≡ true = ap (is_of kind) (same_some y x e) ∙ f in rw g refl
some_kind kind (y ∷ l) (suc i) x e f = or_true (is_of kind y) (has_kind kind l) (some_kind kind l i x e f)
  where
    or_true : (a b : Bool) → b ≡ true → (a || b) ≡ true
    or_true true b g = refl
    or_true false b g = g

pub put_last : (kind : List ℕ) (flat : ItemOf Listed) (l all : List (ItemOf Listed)) (keep : Bool)
    → keep ≡ true → all ≡ l ++ flat ∷ [] → all ≡ put_flat keep kind flat l
put_last kind flat l all keep e h = h ∙ sym (ap (λ b. put_flat b kind flat l) e)

pub put_inside : (kind : List ℕ) (flat : ItemOf Listed) (l all : List (ItemOf Listed)) (keep : Bool)
    → keep ≡ false → all ≡ in_place kind flat l → all ≡ put_flat keep kind flat l
put_inside kind flat l all keep e h = h ∙ sym (ap (λ b. put_flat b kind flat l) e)

pub flat_made : (t r : Timeline) (kind : List ℕ) (keep : Bool) (rate : Rate) (i : ℕ)
    (parts : List Part) (items all : List (ItemOf Listed)) (flat : ItemOf Listed)
    → IsFirstOf kind (roots t) i → AreAll kind (roots t) parts → rate ≡ rate_of t
    → piece_items rate (map (piece_of (roots t)) parts) ≡ Some items → flat ≡ flat_track kind items
    → all ≡ put_flat keep kind flat (roots t) → bare r ≡ bare (with_roots all t)
    → IsFlattened t kind keep r
flat_made t r kind keep rate i parts items all flat first are e made f g h =
    changed items (some_kind kind (roots t) i first.item first.there first.of)
    (record {
      pieces = map (piece_of (roots t)) parts;
      are = are;
      made = ap (λ (q : Rate). piece_items q (map (piece_of (roots t)) parts)) (sym e) ∙ made;
    })
    (h ∙ ap (λ l. bare (with_roots l t)) (g ∙ ap (λ z. put_flat keep kind z (roots t)) f))

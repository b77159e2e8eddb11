-- The walk over a list up to the first overlap that holds an instant.
use Rattle.std.proofs.Common.{◌≡◌, refl, sym, ap, ◌∙◌, subst, ℕ, zero, suc, ◌+◌, ◌<◌, ◌≤◌, ◌^◌, ℤ, pos, ◌-ℤ◌, ◌≤ℤ◌, Bool, true, false, List, Option, Some, None, length, slice_get, arith}
use Rattle.std.specs.Prelude.{cond}
use Rattle.std.proofs.lemmas.Int.{ints}
use Rattle.otio_model.specs.declared.compositions.Transition.{Transition as TransitionRow}
use Rattle.otio_model.specs.declared.compositions.ItemOf.{ItemOf}
use Rattle.otio_model.specs.declared.compositions.ItemOf.TheVariants.{Clip, Gap, Transition, Stack, Track}
use Rattle.otio_model.specs.declared.compositions.Listed.{Listed}
use Rattle.otio_model.specs.declared.seeks.Seat.{Seat}
use Rattle.otio_model.specs.Trees.{items_of, is_transition}
use Rattle.otio_model.specs.Counts.{count}
use Rattle.otio_model.specs.Lengths.{length_of, start_of, or_zero}
use Rattle.otio_model.specs.Overlaps.{overlaps, within, offset_of}
use Rattle.otio_model.specs.Seats.{overlap_holds, HasNoOverlap, IsFirstOverlap}
use Rattle.coord.specs.Looks.{mix_shows, blank}
use Rattle.coord.specs.Sights.{View, looks}
use Rattle.coord.specs.Soundness.{AreFaultless}
use Rattle.show_prog.specs.Walk.{item_before, ticks_at}
use Rattle.coord.proofs.ChildStarts.{start_next}
use Rattle.show_prog.proofs.SeatLemmas.{got}
use Rattle.show_prog.proofs.SoundnessFacts.{Here, here}
use Rattle.show_prog.proofs.Walk.{Walked, walk_begins, walk_item, walk_transition, walk_end}

-- ---- the last item before an index

abbrev before_step : List (ItemOf Listed) → ℕ → Option (ItemOf Listed) → Option ℕ
before_step xs i o =
    elim o [ None ↦ item_before xs i | Some x ↦ cond (is_transition x) (item_before xs i) (Some i) ]

before_is : (xs : List (ItemOf Listed)) (i : ℕ) (x : ItemOf Listed) → slice_get xs i ≡ Some x
    → item_before xs (suc i) ≡ cond (is_transition x) (item_before xs i) (Some i)
before_is xs i x e = ap (before_step xs i) e

pub before_item : (xs : List (ItemOf Listed)) (i : ℕ) (x : ItemOf Listed) → slice_get xs i ≡ Some x
    → is_transition x ≡ false → item_before xs (suc i) ≡ Some i
before_item xs i x e n = before_is xs i x e ∙ ap (λ t. cond t (item_before xs i) (Some i)) n

pub before_past : (xs : List (ItemOf Listed)) (i : ℕ) (x : ItemOf Listed) → slice_get xs i ≡ Some x
    → is_transition x ≡ true → item_before xs (suc i) ≡ item_before xs i
before_past xs i x e n = before_is xs i x e ∙ ap (λ t. cond t (item_before xs i) (Some i)) n

-- the same, as the code counts
pub before_here : (xs : List (ItemOf Listed)) (i n : ℕ) (x : ItemOf Listed) → n ≡ suc i
    → slice_get xs i ≡ Some x → is_transition x ≡ false → item_before xs n ≡ Some i
before_here xs i n x e g t = ap (item_before xs) e ∙ before_item xs i x g t

pub before_next : (xs : List (ItemOf Listed)) (i n : ℕ) (x : ItemOf Listed) → n ≡ suc i
    → slice_get xs i ≡ Some x → is_transition x ≡ true → item_before xs n ≡ item_before xs i
before_next xs i n x e g t = ap (item_before xs) e ∙ before_past xs i x g t

-- ---- how long it is

abbrev ticks_by : Option (ItemOf Listed) → ℤ
ticks_by o = elim o [ None ↦ pos 0 | Some x ↦ pos (or_zero (length_of x)) ]

pub ticks_is : (xs : List (ItemOf Listed)) (i : ℕ) (x : ItemOf Listed) → slice_get xs i ≡ Some x
    → ticks_at xs (Some i) ≡ pos (or_zero (length_of x))
ticks_is xs i x e = ap ticks_by e

-- ---- the walk

abbrev overlaps_by : Listed → ℤ → ℕ → Option (ItemOf Listed) → Bool
overlaps_by l at i o = elim o [ None ↦ false | Some x ↦ overlaps x (at -ℤ pos (start_of l i)) ]

pub overlaps_is : (l : Listed) (at : ℤ) (i : ℕ) (x : ItemOf Listed) (t : Bool)
    → slice_get (items_of l) i ≡ Some x → overlap_holds l at i ≡ t
    → overlaps x (at -ℤ pos (start_of l i)) ≡ t
overlaps_is l at i x t e h = sym (ap (overlaps_by l at i) e) ∙ h

-- where the walk stands before item i
abbrev pub WalkedTo : Listed → ℤ → ℕ → Type 0
WalkedTo l at i = Walked l at i (pos (start_of l i))
    (ticks_at (items_of l) (item_before (items_of l) i)) (item_before (items_of l) i)

no_transition : (x : ItemOf Listed) → is_transition x ≡ false → (w : TransitionRow)
    → x ≡ Transition w → ⊥
no_transition x n w e = let k : true ≡ false = sym (ap is_transition e) ∙ n in absurd (cc k)

by_suc : (l : Listed) (at : ℤ) (i : ℕ) (start since : ℤ) (before : Option ℕ)
    → Walked l at (i + 1) start since before → Walked l at (suc i) start since before
by_suc l at i start since before s =
    let e : i + 1 ≡ suc i = omega arith in subst (λ k. Walked l at k start since before) e s

past_item : (l : Listed) (at : ℤ) (i : ℕ) (x : ItemOf Listed) → is_transition x ≡ false
    → Here l i x → WalkedTo l at i → WalkedTo l at (suc i)
past_item l at i x n h s =
    let xs : List (ItemOf Listed) = items_of l in
    let b = before_item xs i x h.get n in
    let t = ap (ticks_at xs) b ∙ ticks_is xs i x h.get in
    let e : i + 1 ≡ suc i = omega arith in
    let k = ap (start_of l) (sym e) ∙ start_next l i x h.get in
    by_suc l at i _ _ _ (walk_item l at i x (pos (start_of l i)) (ticks_at xs (item_before xs i))
    (pos (start_of l (suc i))) (ticks_at xs (item_before xs (suc i)))
    (item_before xs i) (item_before xs (suc i)) s h (no_transition x n)
    (omega (arith, ints, k)) t b)

past_transition : (l : Listed) (at : ℤ) (i : ℕ) (w : TransitionRow) → Here l i (Transition w)
    → overlaps {C = Listed} (Transition w) (at -ℤ pos (start_of l i)) ≡ false
    → WalkedTo l at i → WalkedTo l at (suc i)
past_transition l at i w h m s =
    let xs : List (ItemOf Listed) = items_of l in
    let b = before_past xs i (Transition w) h.get refl in
    let t = ap (ticks_at xs) b in
    let e : i + 1 ≡ suc i = omega arith in
    let k = ap (start_of l) (sym e) ∙ start_next l i (Transition w) h.get in
    by_suc l at i _ _ _ (walk_transition l at i (Transition w) w (pos (start_of l i))
    (ticks_at xs (item_before xs i)) (pos (start_of l (suc i)))
    (ticks_at xs (item_before xs (suc i))) (item_before xs i) (item_before xs (suc i)) s h refl
    (at -ℤ pos (start_of l i)) (sym m) refl (omega (arith, ints, k)) t b)

past : (l : Listed) (at : ℤ) (i : ℕ) (x : ItemOf Listed) → Here l i x
    → overlaps x (at -ℤ pos (start_of l i)) ≡ false → WalkedTo l at i → WalkedTo l at (suc i)
past l at i (Clip c) h m s = past_item l at i (Clip c) refl h s
past l at i (Gap g) h m s = past_item l at i (Gap g) refl h s
past l at i (Transition w) h m s = past_transition l at i w h m s
past l at i (Stack k) h m s = past_item l at i (Stack k) refl h s
past l at i (Track t) h m s = past_item l at i (Track t) refl h s

-- no overlap of an item before i holds the instant
pub is_walked_to : (l : Listed) (at : ℤ) (i : ℕ) → AreFaultless l → count l < 2 ^ 32 → pos 0 ≤ℤ at
    → i ≤ length (items_of l) → ((j : ℕ) → j < i → overlap_holds l at j ≡ false) → WalkedTo l at i
is_walked_to l at zero sound few low h none = walk_begins l at _ _ _ refl refl refl
is_walked_to l at (suc i) sound few low h none =
    let g = got (items_of l) i (omega (arith, h)) in
    past l at i g.item (here l i g.item g.got sound few)
    (overlaps_is l at i g.item false g.got (none i (omega arith)))
    (is_walked_to l at i sound few low (omega (arith, h)) (λ j k. none j (omega (arith, k))))

-- no overlap at all
pub none_mixed : (v : View) (l : Listed) (at : ℤ) → AreFaultless l → count l < 2 ^ 32 → pos 0 ≤ℤ at
    → HasNoOverlap l at → mix_shows blank (looks v (items_of l)) at ≡ None
none_mixed v l at sound few low none =
    walk_end v l at (length (items_of l)) _ _ _
    (is_walked_to l at (length (items_of l)) sound few low (omega arith) (λ j k. none j)) (omega arith)

-- ---- the transition that was found

-- where the walk stands before it
pub walked_to : (l : Listed) (at : ℤ) (s : Seat) (before : Option ℕ) (since : ℤ) → AreFaultless l
    → count l < 2 ^ 32 → pos 0 ≤ℤ at → IsFirstOverlap l at s
    → before ≡ item_before (items_of l) s.index
    → since ≡ ticks_at (items_of l) before → Walked l at s.index s.start since before
walked_to l at s before since sound few low first b t =
    let w = first.within in
    let r = is_walked_to l at s.index sound few low (omega (arith, w)) first.none_before in
    let e : since ≡ ticks_at (items_of l) (item_before (items_of l) s.index) =
    t ∙ ap (ticks_at (items_of l)) b in
    subst (λ z. Walked l at s.index z since before) (sym first.starts)
    (subst (λ o. Walked l at s.index (pos (start_of l s.index)) since o) (sym b)
    (subst (λ z. Walked l at s.index (pos (start_of l s.index)) z
    (item_before (items_of l) s.index))
    (sym e) r))

-- its overlap holds the instant
pub held_is : (l : Listed) (at : ℤ) (s : Seat) (x : ItemOf Listed) (w : TransitionRow)
    → slice_get (items_of l) s.index ≡ Some x → x ≡ Transition w → IsFirstOverlap l at s
    → true ≡ within (pos 0 -ℤ offset_of w.in_offset) (offset_of w.out_offset) (at -ℤ s.start)
held_is l at s x w e is first =
    sym (ap (λ z. overlaps {C = Listed} (Transition w) (at -ℤ z)) first.starts
    ∙ ap (λ (y : ItemOf Listed). overlaps y (at -ℤ pos (start_of l s.index))) (sym is)
    ∙ overlaps_is l at s.index x true e first.there)

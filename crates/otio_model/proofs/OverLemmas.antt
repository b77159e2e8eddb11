-- The first overlap that holds an instant, in parts and in the whole.
use Rattle.std.proofs.Common.{◌≡◌, ℕ, zero, suc, ◌+◌, ◌≤◌, ◌<◌, List, [], ◌∷◌, ◌++◌, Option}
use Rattle.std.proofs.Common.{Some, None}
use Rattle.std.proofs.Common.{ℤ, pos, ◌-ℤ◌, ◌≤ℤ◌, ◌<ℤ◌, Bool, true, false, ◌&&◌}
use Rattle.std.proofs.Common.{take, drop, length, get_or, refl, ap, sym, ◌∙◌, arith, subst}
use Rattle.std.proofs.Common.{length-append}
use Rattle.std.specs.Prelude.{IsSomeAnd, slice_get, negsuc, int_le, int_lt, unsigned_abs}
use Rattle.std.proofs.lemmas.Int.{ints}
use Rattle.std.proofs.lemmas.List.{take-append-drop, take_more, take-append-le}
use Rattle.std.proofs.Math.Seq.{take-append-add}
use Rattle.tick_time.specs.declared.times.Time.{Time}
use Rattle.otio_model.specs.declared.compositions.ItemOf.{ItemOf}
use Rattle.otio_model.specs.declared.compositions.ItemOf.TheVariants.{Clip, Gap, Transition, Stack}
use Rattle.otio_model.specs.declared.compositions.ItemOf.TheVariants.{Track}
use Rattle.otio_model.specs.declared.compositions.Listed.{Listed}
use Rattle.otio_model.specs.declared.lists.Piece.{Piece}
use Rattle.otio_model.specs.declared.piece_summary.Kept.{Kept}
use Rattle.otio_model.specs.declared.seeks.Seat.{Seat}
use Rattle.otio_model.specs.Trees.{items_of}
use Rattle.otio_model.specs.Lengths.{length_of, or_zero}
use Rattle.otio_model.specs.Overlaps.{overlaps, offset_of, within}
use Rattle.otio_model.specs.Kept.{capped_count, offset_reach, one_transition, reach_in}
use Rattle.otio_model.specs.Kept.{after_in, after_of, before_in, before_of, reach_of}
use Rattle.otio_model.specs.Kept.{transitions_in}
use Rattle.otio_model.specs.Pieces.{all_items, IsPiece}
use Rattle.otio_model.specs.Seats.{HasNoOverlap, IsFirstOverlap, overlap_holds}
use Rattle.otio_model.specs.Seeks.{IsOver, IsRead, NoneOver, lens, total}
use Rattle.otio_model.proofs.Cuts.{all_items-append, all_items-last}
use Rattle.otio_model.proofs.KeptLemmas.{reach-append}
use Rattle.otio_model.proofs.SeekLemmas.{added-total, lens-append, length-lens, split-at}
use Rattle.otio_model.proofs.SeekLemmas.{start-total, total-append, total-take_le}
use Rattle.otio_model.proofs.Spots.{get_front, get_past}
use Rattle.otio_model.proofs.Ways.{get_at}

within_below : (a b w : ℤ) → w <ℤ a → within a b w ≡ false
within_below a b w h = let e : int_le a w ≡ false = grind (arith, ints) in rw e

within_above : (a b w : ℤ) → b ≤ℤ w → within a b w ≡ false
within_above a b w h =
    let f : int_lt w b ≡ false = grind (arith, ints) in rw f (last_false (int_le a w))
  where
    last_false : (t : Bool) → (t && false) ≡ false
    last_false true = refl
    last_false false = refl

-- an offset lies no further than it reaches
int_reach : (z : ℤ) → z ≤ℤ pos (unsigned_abs z)
int_reach (pos n) = omega (arith, ints)
int_reach (negsuc n) = omega (arith, ints)

pub offset_near : (o : Option Time) → offset_of o ≤ℤ pos (offset_reach o)
offset_near None = omega (arith, ints)
offset_near (Some t) = int_reach t.ticks

-- an overlap holds no instant that lies as far behind its cut as it reaches, or further before it
far_behind : (x : ItemOf Listed) (w : ℤ) → pos (reach_of x) ≤ℤ w → overlaps x w ≡ false
far_behind (Clip c) w h = refl
far_behind (Gap g) w h = refl
far_behind (Transition t) w h =
    let n = offset_near t.out_offset in
    within_above (pos 0 -ℤ offset_of t.in_offset) (offset_of t.out_offset) w
    (omega (arith, ints, h, n))
far_behind (Stack s) w h = refl
far_behind (Track t) w h = refl

far_ahead : (x : ItemOf Listed) (w : ℤ) → w <ℤ (pos 0 -ℤ pos (reach_of x)) → overlaps x w ≡ false
far_ahead (Clip c) w h = refl
far_ahead (Gap g) w h = refl
far_ahead (Transition t) w h =
    let n = offset_near t.in_offset in
    within_below (pos 0 -ℤ offset_of t.in_offset) (offset_of t.out_offset) w
    (omega (arith, ints, h, n))
far_ahead (Stack s) w h = refl
far_ahead (Track t) w h = refl

none_behind : (xs : List (ItemOf Listed)) (w : ℤ) → pos (total (lens xs) + reach_in xs) ≤ℤ w
    → NoneOver xs w
none_behind [] w h = tt
none_behind (x ∷ xs) w h = (
  far_behind x w (omega (arith, ints, h)),
  none_behind xs (w -ℤ pos (or_zero (length_of x))) (omega (arith, ints, h)),
)

none_ahead : (xs : List (ItemOf Listed)) (w : ℤ) → w <ℤ (pos 0 -ℤ pos (reach_in xs)) → NoneOver xs w
none_ahead [] w h = tt
none_ahead (x ∷ xs) w h = (
  far_ahead x w (omega (arith, ints, h)),
  none_ahead xs (w -ℤ pos (or_zero (length_of x))) (omega (arith, ints, h)),
)

-- an overlap holds no instant at or after its end, and none before its start
ends_by : (x : ItemOf Listed) (w : ℤ) → pos (after_of x) ≤ℤ w → overlaps x w ≡ false
ends_by (Clip c) w h = refl
ends_by (Gap g) w h = refl
ends_by (Transition t) w h =
    let n = offset_near t.out_offset in
    within_above (pos 0 -ℤ offset_of t.in_offset) (offset_of t.out_offset) w
    (omega (arith, ints, h, n))
ends_by (Stack s) w h = refl
ends_by (Track t) w h = refl

begins_past : (x : ItemOf Listed) (w : ℤ) → w <ℤ (pos 0 -ℤ pos (before_of x))
    → overlaps x w ≡ false
begins_past (Clip c) w h = refl
begins_past (Gap g) w h = refl
begins_past (Transition t) w h =
    let n = offset_near t.in_offset in
    within_below (pos 0 -ℤ offset_of t.in_offset) (offset_of t.out_offset) w
    (omega (arith, ints, h, n))
begins_past (Stack s) w h = refl
begins_past (Track t) w h = refl

none_after : (xs : List (ItemOf Listed)) (w : ℤ) → pos (total (lens xs) + after_in xs) ≤ℤ w
    → NoneOver xs w
none_after [] w h = tt
none_after (x ∷ xs) w h = (
  ends_by x w (omega (arith, ints, h, added-total (x ∷ xs))),
  none_after xs (w -ℤ pos (or_zero (length_of x))) (omega (arith, ints, h)),
)

none_before : (xs : List (ItemOf Listed)) (w : ℤ) → w <ℤ (pos 0 -ℤ pos (before_in xs))
    → NoneOver xs w
none_before [] w h = tt
none_before (x ∷ xs) w h = (
  begins_past x w (omega (arith, ints, h)),
  none_before xs (w -ℤ pos (or_zero (length_of x))) (omega (arith, ints, h)),
)

no_overlap : (x : ItemOf Listed) (w : ℤ) → one_transition x ≡ 0 → overlaps x w ≡ false
no_overlap (Clip c) w e = refl
no_overlap (Gap g) w e = refl
no_overlap (Transition t) w e = absurd (omega (arith, e))
no_overlap (Stack s) w e = refl
no_overlap (Track t) w e = refl

-- no transition, no overlap
pub none_without : (xs : List (ItemOf Listed)) (w : ℤ) → transitions_in xs ≡ 0 → NoneOver xs w
none_without [] w e = tt
none_without (x ∷ xs) w e = (
  no_overlap x w (omega (arith, e)),
  none_without xs (w -ℤ pos (or_zero (length_of x))) (omega (arith, e)),
)

none_append : (a p : List (ItemOf Listed)) (w : ℤ) → NoneOver a w
    → NoneOver p (w -ℤ pos (total (lens a))) → NoneOver (a ++ p) w
none_append [] p w h k = subst (NoneOver p) (omega (arith, ints)) k
none_append (x ∷ a) p w h k = (
  h.0,
  none_append a p (w -ℤ pos (or_zero (length_of x))) h.1
      (subst (NoneOver p) (omega (arith, ints)) k),
)

-- an instant that isn't below 0, as a natural number
pub abs_pos : (z : ℤ) → pos 0 ≤ℤ z → pos (unsigned_abs z) ≡ z
abs_pos (pos n) h = refl
abs_pos (negsuc n) h = absurd (omega (arith, ints, h))

-- a piece without overlaps, one whose overlaps end too early, and one whose overlaps begin too late
pub piece_without : (p : Piece) (w : ℤ) → IsPiece p → p.kept.transitions ≡ 0
    → NoneOver p.items.items w
piece_without p w k e =
    none_without p.items.items w (omega (arith, e, ap (λ (x : Kept). x.transitions) k.keeps))

pub piece_after : (p : Piece) (first at : ℕ) → IsPiece p
    → first + total (lens p.items.items) + p.kept.after ≤ at
    → NoneOver p.items.items (pos at -ℤ pos first)
piece_after p first at k h =
    none_after p.items.items _ (omega (arith, ints, h, ap (λ (x : Kept). x.after) k.keeps))

pub piece_before : (p : Piece) (first at : ℕ) → IsPiece p → at + p.kept.before < first
    → NoneOver p.items.items (pos at -ℤ pos first)
piece_before p first at k h =
    none_before p.items.items _ (omega (arith, ints, h, ap (λ (x : Kept). x.before) k.keeps))

pub lens-take : (xs : List (ItemOf Listed)) (i : ℕ) → lens (take i xs) ≡ take i (lens xs)
lens-take [] zero = refl
lens-take [] (suc i) = refl
lens-take (x ∷ xs) zero = refl
lens-take (x ∷ xs) (suc i) = ap (λ l. or_zero (length_of x) ∷ l) (lens-take xs i)

-- one more item whose overlap doesn't hold the instant
pub over_passed : (xs : List (ItemOf Listed)) (i : ℕ) (x : ItemOf Listed) (w u : ℤ) (start : ℕ)
    → i < length xs → x ≡ get_or xs i x
    → start ≡ total (take i (lens xs)) → u ≡ w -ℤ pos start → overlaps x u ≡ false
    → NoneOver (take i xs) w
    → NoneOver (take (i + 1) xs) w
over_passed xs i x w u start h e s v k n =
    let m : take (i + 1) xs ≡ take i xs ++ x ∷ [] = take_more xs i x h
    ∙ ap (λ y. take i xs ++ y ∷ []) (sym e) in
    let same : u ≡ w -ℤ pos (total (lens (take i xs))) = v
    ∙ ap (λ n. w -ℤ pos n) (s ∙ sym (ap total (lens-take xs i))) in
    subst (λ l. NoneOver l w) (sym m)
    (none_append (take i xs) (x ∷ []) w n (subst (λ z. overlaps x z ≡ false) same k, tt))

-- an item whose overlap holds it
pub over_here : (xs : List (ItemOf Listed)) (i : ℕ) (x : ItemOf Listed) (w u : ℤ) (start : ℕ)
    → i < length xs → x ≡ get_or xs i x
    → start ≡ total (take i (lens xs)) → u ≡ w -ℤ pos start → overlaps x u ≡ true
    → NoneOver (take i xs) w
    → IsOver xs w i start
over_here xs i x w u start h e s v k n = record {
  within = h;
  starts = s;
  there = subst (λ o. IsSomeAnd o (λ y. overlaps y (w -ℤ pos start) ≡ true))
      (sym (get_at xs i x h e)) (subst (λ z. overlaps x z ≡ true) v k);
  none = n;
}

-- where a part's item starts in the whole
starts_within : (a p c : List (ItemOf Listed)) (index start : ℕ) → index < length p
    → start ≡ total (take index (lens p))
    → total (lens a) + start ≡ total (take (length a + index) (lens (a ++ (p ++ c))))
starts_within a p c index start h e = omega (
  arith,
  e,
  ap (λ ns. total (take (length a + index) ns)) (lens-append a (p ++ c)),
  ap (λ n. total (take (n + index) (lens a ++ lens (p ++ c)))) (sym (length-lens a)),
  ap total (take-append-add (lens a) (lens (p ++ c)) index),
  total-append (lens a) (take index (lens (p ++ c))),
  ap (λ ns. total (take index ns)) (lens-append p c),
  ap total (take-append-le index (lens p) (lens c) (omega (arith, h, length-lens p))),
)

over_within : (a p c : List (ItemOf Listed)) (w : ℤ) (index start : ℕ) → NoneOver a w
    → IsOver p (w -ℤ pos (total (lens a))) index start
    → IsOver (a ++ (p ++ c)) w (length a + index) (total (lens a) + start)
over_within a p c w index start h k =
    let same : (w -ℤ pos (total (lens a))) -ℤ pos start ≡ w -ℤ pos (total (lens a) + start) =
    omega (arith, ints) in
    let got : slice_get (a ++ (p ++ c)) (length a + index) ≡ slice_get p index =
    get_past a (p ++ c) index ∙ get_front p c index k.within in
    let there : IsSomeAnd (slice_get p index) (λ x. overlaps x (w -ℤ pos (total (lens a) + start))
    ≡ true)
    = subst (λ u. IsSomeAnd (slice_get p index) (λ x. overlaps x u ≡ true)) same k.there in
    let front : take (length a + index) (a ++ (p ++ c)) ≡ a ++ take index p
    = take-append-add a (p ++ c) index
    ∙ ap (λ l. a ++ l) (take-append-le index p c (omega (arith, k.within))) in
    record {
      within = omega (arith, k.within, length-append a (p ++ c), length-append p c);
      starts = starts_within a p c index start k.within k.starts;
      there = subst (λ o. IsSomeAnd o (λ x. overlaps x (w -ℤ pos (total (lens a) + start)) ≡ true))
          (sym got) there;
      none = subst (λ l. NoneOver l w) (sym front) (none_append a (take index p) w h k.none);
    }

-- what is found in a piece is found in all
pub over_at : {ps : List Piece} {i at index inner : ℕ} {p : Piece} → IsRead ps i p
    → NoneOver (all_items (take i ps)) (pos at)
    → IsOver p.items.items (pos at -ℤ pos p.start.ticks) index inner
    → IsOver (all_items ps) (pos at) (p.start.items + index) (p.start.ticks + inner)
over_at {ps = ps} {i = i} {at = at} {index = index} {inner = inner} {p = p} f n k =
    let a = all_items (take i ps) in
    let c = all_items (drop (i + 1) ps) in
    let w : all_items ps ≡ a ++ (p.items.items ++ c) = split-at ps i p f.there
    ∙ ap (λ (x : Piece). a ++ (x.items.items ++ c)) (sym f.read) in
    let inside : IsOver p.items.items (pos at -ℤ pos (total (lens a))) index inner
    = subst (λ n. IsOver p.items.items (pos at -ℤ pos n) index inner) f.start k in
    rw (f.before, f.start, w) (over_within a p.items.items c (pos at) index inner n inside)

-- a search that goes on
pub over_next : {ps : List Piece} {i : ℕ} {p : Piece} (at : ℕ) → IsRead ps i p
    → NoneOver (all_items (take i ps)) (pos at)
    → NoneOver p.items.items (pos at -ℤ pos p.start.ticks)
    → NoneOver (all_items (take (i + 1) ps)) (pos at)
over_next {ps = ps} {i = i} {p = p} at f n k =
    let m : all_items (take (i + 1) ps) ≡ all_items (take i ps) ++ p.items.items
    = ap all_items (take_more ps i p f.there ∙ ap (λ y. take i ps ++ y ∷ []) (sym f.read))
    ∙ all_items-last (take i ps) p in
    subst (λ xs. NoneOver xs (pos at)) (sym m)
    (none_append (all_items (take i ps)) p.items.items (pos at) n
    (subst (λ n. NoneOver p.items.items (pos at -ℤ pos n)) f.start k))

-- pieces as those before one of them and the others
parted : (ps : List Piece) (i : ℕ) → all_items ps ≡ all_items (take i ps) ++ all_items (drop i ps)
parted ps i = ap all_items (sym (take-append-drop i ps)) ∙ all_items-append (take i ps) (drop i ps)

-- what stands before a piece ends too early
pub over_before : (ps : List Piece) (i at reach : ℕ) → reach_in (all_items ps) ≤ reach
    → total (lens (all_items (take i ps))) + reach ≤ at → NoneOver (all_items (take i ps)) (pos at)
over_before ps i at reach r h =
    let a = all_items (take i ps) in
    none_behind a (pos at)
    (omega (
      arith,
      ints,
      h,
      r,
      ap reach_in (parted ps i),
      reach-append a (all_items (drop i ps)),
    ))

-- a piece and what stands behind it begin too late
pub over_behind : {ps : List Piece} {i reach : ℕ} {p : Piece} (at : ℕ) → IsRead ps i p
    → reach_in (all_items ps) ≤ reach → at + reach < p.start.ticks
    → NoneOver (all_items (take i ps)) (pos at) → NoneOver (all_items ps) (pos at)
over_behind {ps = ps} {i = i} at f r h n =
    let a = all_items (take i ps) in
    let c = all_items (drop i ps) in
    let late : (pos at -ℤ pos (total (lens a))) <ℤ (pos 0 -ℤ pos (reach_in c)) =
    omega (arith, ints, f.start, h, r, ap reach_in (parted ps i), reach-append a c) in
    subst (λ xs. NoneOver xs (pos at)) (sym (parted ps i))
    (none_append a c (pos at) n (none_ahead c (pos at -ℤ pos (total (lens a))) late))

pub over_short : {xs : List (ItemOf Listed)} {w : ℤ} {index start : ℕ} → IsOver xs w index start
    → start ≤ total (lens xs)
over_short {xs = xs} {index = index} k = omega (arith, k.starts, total-take_le (lens xs) index)

-- whether the overlap of an item that may be there holds an instant
abbrev holds : Option (ItemOf Listed) → ℤ → Bool
holds o u = elim o [ None ↦ false | Some x ↦ overlaps x u ]

holds_some : (o : Option (ItemOf Listed)) (u : ℤ) → IsSomeAnd o (λ x. overlaps x u ≡ true)
    → holds o u ≡ true
holds_some None u h = absurd h
holds_some (Some x) u h = h

none_each : (xs : List (ItemOf Listed)) (w : ℤ) (i : ℕ) → NoneOver xs w
    → holds (slice_get xs i) (w -ℤ pos (total (take i (lens xs)))) ≡ false
none_each [] w zero h = refl
none_each [] w (suc i) h = refl
none_each (x ∷ xs) w zero h = ap (overlaps x) (omega (arith, ints)) ∙ h.0
none_each (x ∷ xs) w (suc i) h =
    ap (holds (slice_get xs i)) (omega (arith, ints))
    ∙ none_each xs (w -ℤ pos (or_zero (length_of x))) i h.1

none_taken : (xs : List (ItemOf Listed)) (w : ℤ) (k i : ℕ) → i < k → NoneOver (take k xs) w
    → holds (slice_get xs i) (w -ℤ pos (total (take i (lens xs)))) ≡ false
none_taken xs w zero i l h = absurd (omega arith)
none_taken [] w (suc k) zero l h = refl
none_taken [] w (suc k) (suc i) l h = refl
none_taken (x ∷ xs) w (suc k) zero l h = ap (overlaps x) (omega (arith, ints)) ∙ h.0
none_taken (x ∷ xs) w (suc k) (suc i) l h =
    ap (holds (slice_get xs i)) (omega (arith, ints))
    ∙ none_taken xs (w -ℤ pos (or_zero (length_of x))) k i (omega arith) h.1

start_same : (l : Listed) (w : ℤ) (i : ℕ)
    → overlap_holds l w i
    ≡ holds (slice_get (items_of l) i) (w -ℤ pos (total (take i (lens (items_of l)))))
start_same l w i = ap (λ n. holds (slice_get (items_of l) i) (w -ℤ pos n)) (start-total l i)

-- what was found in natural numbers, as a seat
pub over_seated : (l : Listed) (xs : List (ItemOf Listed)) (at : ℤ) (index start : ℕ) (s : Seat)
    → items_of l ≡ xs → IsOver xs at index start
    → s.index ≡ index → s.start ≡ pos start → IsFirstOverlap l at s
over_seated l xs at index start s e k i h =
    let n : IsOver (items_of l) at s.index start =
    subst (λ j. IsOver (items_of l) at j start) (sym i)
    (subst (λ ys. IsOver ys at index start) (sym e) k) in
    record {
      within = n.within;
      starts = h ∙ ap pos (n.starts ∙ sym (start-total l s.index));
      there = start_same l at s.index
          ∙ ap (λ m. holds (slice_get (items_of l) s.index) (at -ℤ pos m)) (sym n.starts)
          ∙ holds_some (slice_get (items_of l) s.index) (at -ℤ pos start) n.there;
      none_before = λ j b. start_same l at j ∙ none_taken (items_of l) at s.index j b n.none;
    }

pub over_none : (l : Listed) (xs : List (ItemOf Listed)) (at : ℤ) → items_of l ≡ xs → NoneOver xs at
    → HasNoOverlap l at
over_none l xs at e n = λ j. start_same l at j
    ∙ none_each (items_of l) at j (subst (λ ys. NoneOver ys at) (sym e) n)

-- children of whose transitions none are kept have none
pub over_without : (l : Listed) (n : ℕ) (at : ℤ) → n ≡ capped_count (transitions_in (items_of l))
    → n ≡ 0 → HasNoOverlap l at
over_without l n at e z =
    over_none l (items_of l) at refl (none_without (items_of l) at (omega (arith, e, z)))

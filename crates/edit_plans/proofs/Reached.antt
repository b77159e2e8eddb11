-- The instant in a child that a track's instant reaches.
use Rattle.std.proofs.Common.{◌≡◌, refl, sym, ap, ap₂, subst, ◌∙◌, ℕ, suc, ◌+◌, ◌≤◌, ◌==◌}
use Rattle.std.proofs.Common.{ℤ, pos, negsuc, ◌+ℤ◌, ◌-ℤ◌, ◌≤ℤ◌, Bool, true, false, ◌&&◌, ◌||◌, cond}
use Rattle.std.proofs.Common.{List, Option, Some, None, length, drop, take, slice_get, add-one, arith}
use Rattle.std.specs.Prelude.{IfSome, unwrap_or, int_le, int_lt}
use Rattle.std.proofs.lemmas.Int.{ints}
use Rattle.std.proofs.lemmas.Bool.{or_left as or_first}
use Rattle.limits.proofs.IntegerTests.{int_le-true as le_is, int_lt-true as lt_is}
use Rattle.limits.specs.Limits.{most_ticks}
use Rattle.tick_time.proofs.BoolLemmas.{both}
use Rattle.otio_model.specs.declared.compositions.ItemOf.{ItemOf}
use Rattle.otio_model.specs.declared.compositions.ItemOf.TheVariants.{Clip, Gap, Transition, Stack}
use Rattle.otio_model.specs.declared.compositions.ItemOf.TheVariants.{Track}
use Rattle.otio_model.specs.declared.compositions.Listed.{Listed}
use Rattle.otio_model.specs.declared.seeks.Seat.{Seat}
use Rattle.otio_model.specs.Lengths.{added, lengths, start_of}
use Rattle.otio_model.specs.Overlaps.{overlaps, within}
use Rattle.otio_model.specs.Seats.{overlap_holds, HasNoOverlap, IsFirstOverlap, IsOutside, IsSeat}
use Rattle.otio_model.specs.Seeks.{lens}
use Rattle.otio_model.specs.Seeks as seeks
use Rattle.otio_model.specs.Trees.{items_of, is_transition}
use Rattle.otio_model.proofs.SeekLemmas.{start-total, all-total, total-take_le}
use Rattle.coord.specs.Looks.{total}
use Rattle.coord.specs.Sights.{View, looks}
use Rattle.coord.proofs.Members.{none_left}
use Rattle.coord.proofs.LookSteps.{is_within, missed_before, missed_behind}
use Rattle.edits_law.specs.Down.{is_here, is_next, is_side, is_holder, where_so}
use Rattle.edits_law.specs.Down.{reached, reached_above}
use Rattle.edit_plans.specs.Way.{further, is_last, is_index, IsBefore, IsBehind, IsNear}
use Rattle.edit_plans.proofs.Sides.{holds_by, ticks, here_is, last_more, next_less, holds_at, holds_is}
use Rattle.edit_plans.proofs.Sides.{side_found, side_none, holder_is, total_taken, total_all}
use Rattle.edit_plans.proofs.Sides.{taken_more, above_is}

-- ---- where children start

-- the child after one
pub start_after : (l : Listed) (i : ℕ) (x : ItemOf Listed) → slice_get (items_of l) i ≡ Some x
    → start_of l (i + 1) ≡ start_of l i + ticks x
start_after l i x e =
    let a = start-total l (i + 1) in
    let b = ap (λ n. seeks.total (take n (lens (items_of l)))) (add-one i) in
    omega (arith, a, b, taken_more (items_of l) i x e, start-total l i)

pub start_inside : (l : Listed) (i : ℕ) → start_of l i ≤ added (lengths l)
start_inside l i =
    omega (arith, start-total l i, all-total l, total-take_le (lens (items_of l)) i)

-- a transition takes no time
no_ticks : (x : ItemOf Listed) → is_transition x ≡ true → ticks x ≡ 0
no_ticks (Clip c) e = absurd (cc e)
no_ticks (Gap g) e = absurd (cc e)
no_ticks (Transition t) e = refl
no_ticks (Stack s) e = absurd (cc e)
no_ticks (Track t) e = absurd (cc e)

has_overlap : (x : ItemOf Listed) (w : ℤ) → overlaps x w ≡ true → is_transition x ≡ true
has_overlap (Clip c) w e = absurd (cc e)
has_overlap (Gap g) w e = absurd (cc e)
has_overlap (Transition t) w e = refl
has_overlap (Stack s) w e = absurd (cc e)
has_overlap (Track t) w e = absurd (cc e)

-- ---- the children next to an index

-- the last one before it is found
pub before_here : (l : Listed) (end n i : ℕ) (x : ItemOf Listed) → n ≡ suc i
    → slice_get (items_of l) i ≡ Some x → is_transition x ≡ false
    → ((k : ℕ) → is_last (Some k) false (take end (items_of l))
    ≡ is_last (Some k) false (take n (items_of l)))
    → start_of l end ≡ start_of l n → IsBefore l end (Some i)
before_here l end n i x e get plain side start = record {
  side = λ k. side k ∙ ap (λ m. is_last (Some k) false (take m (items_of l))) e
      ∙ last_more (Some k) false (items_of l) i x get
      ∙ ap (λ t. cond t (is_last (Some k) false (take i (items_of l))) (is_here (further i (Some k))))
      plain ∙ here_is i k;
  start = start ∙ ap (start_of l) (e ∙ sym (add-one i));
}

-- one that is a transition is passed
pub before_side : (l : Listed) (n i : ℕ) (x : ItemOf Listed) → n ≡ suc i
    → slice_get (items_of l) i ≡ Some x → is_transition x ≡ true
    → (k : ℕ) → is_last (Some k) false (take n (items_of l))
    ≡ is_last (Some k) false (take i (items_of l))
before_side l n i x e get is k =
    ap (λ m. is_last (Some k) false (take m (items_of l))) e
    ∙ last_more (Some k) false (items_of l) i x get
    ∙ ap (λ t. cond t (is_last (Some k) false (take i (items_of l))) (is_here (further i (Some k))))
    is

pub before_start : (l : Listed) (n i : ℕ) (x : ItemOf Listed) → n ≡ suc i
    → slice_get (items_of l) i ≡ Some x → is_transition x ≡ true → start_of l n ≡ start_of l i
before_start l n i x e get is =
    ap (start_of l) (e ∙ sym (add-one i)) ∙ omega (arith, start_after l i x get, no_ticks x is)

-- the first one from an index on is found
pub behind_here : (l : Listed) (from i : ℕ) (x : ItemOf Listed)
    → slice_get (items_of l) i ≡ Some x → is_transition x ≡ false
    → ((v : View) (k : ℕ) → is_next (further from (Some k)) (looks v (drop from (items_of l)))
    ≡ is_next (further i (Some k)) (looks v (drop i (items_of l))))
    → start_of l i ≡ start_of l from → IsBehind l from (Some i)
behind_here l from i x get plain side start = record {
  side = λ v k. side v k ∙ next_less v (Some k) (items_of l) i x get
      ∙ ap (λ t. cond t (is_next (further (i + 1) (Some k)) (looks v (drop (i + 1) (items_of l))))
      (is_here (further i (Some k)))) plain ∙ here_is i k;
  start = start;
}

pub behind_side : (l : Listed) (i : ℕ) (x : ItemOf Listed)
    → slice_get (items_of l) i ≡ Some x → is_transition x ≡ true → (v : View) (k : ℕ)
    → is_next (further i (Some k)) (looks v (drop i (items_of l)))
    ≡ is_next (further (i + 1) (Some k)) (looks v (drop (i + 1) (items_of l)))
behind_side l i x get is v k =
    next_less v (Some k) (items_of l) i x get
    ∙ ap (λ t. cond t (is_next (further (i + 1) (Some k)) (looks v (drop (i + 1) (items_of l))))
    (is_here (further i (Some k)))) is

pub behind_start : (l : Listed) (i : ℕ) (x : ItemOf Listed)
    → slice_get (items_of l) i ≡ Some x → is_transition x ≡ true
    → start_of l (i + 1) ≡ start_of l i
behind_start l i x get is = omega (arith, start_after l i x get, no_ticks x is)

-- there is none
pub behind_none : (l : Listed) (from i : ℕ) → length (items_of l) ≤ i
    → ((v : View) (k : ℕ) → is_next (further from (Some k)) (looks v (drop from (items_of l)))
    ≡ is_next (further i (Some k)) (looks v (drop i (items_of l))))
    → IsBehind l from None
behind_none l from i h side = record {
  side = λ v k. side v k
      ∙ ap (λ xs. is_next (further i (Some k)) (looks v xs)) (none_left (items_of l) i h);
  start = tt;
}

-- ---- what a track reaches

same_holds : (l : Listed) (at : ℤ) (j : ℕ) → holds_at (items_of l) at j ≡ overlap_holds l at j
same_holds l at j =
    sym (holds_is (items_of l) at j)
    ∙ ap (λ n. holds_by (at -ℤ pos n) (slice_get (items_of l) j)) (sym (start-total l j))

-- nothing outside the track
pub reached_outside : (v : View) (l : Listed) (k : ℕ) (at : ℤ) → IsOutside l at
    → None ≡ reached k (looks v (items_of l)) at
reached_outside v l k (negsuc n) h =
    ap (λ b. where_so (b && unwrap_or (is_side (Some k) false (looks v (items_of l)) (negsuc n))
    (is_holder (Some k) (looks v (items_of l)) (negsuc n)))
    (negsuc n -ℤ total (take k (looks v (items_of l)))))
    (sym (missed_before (pos 0) (total (looks v (items_of l))) (negsuc n) (omega (arith, ints))))
reached_outside v l k (pos n) h =
    let a = total_all v (items_of l) in
    let b = all-total l in
    let m : pos (added (lengths l)) ≤ℤ pos n = h (omega (arith, ints)) in
    ap (λ b. where_so (b && unwrap_or (is_side (Some k) false (looks v (items_of l)) (pos n))
    (is_holder (Some k) (looks v (items_of l)) (pos n)))
    (pos n -ℤ total (take k (looks v (items_of l)))))
    (sym (missed_behind (pos 0) (total (looks v (items_of l))) (pos n) (omega (arith, ints, a, b, m))))

-- inside it, where the child is asked or isn't
reached_as : (v : View) (l : Listed) (k : ℕ) (at : ℤ) (b : Bool)
    → within (pos 0) (pos (added (lengths l))) at ≡ true
    → unwrap_or (is_side (Some k) false (looks v (items_of l)) at)
    (is_holder (Some k) (looks v (items_of l)) at) ≡ b
    → reached k (looks v (items_of l)) at ≡ where_so b (at -ℤ pos (start_of l k))
reached_as v l k at b inside asked =
    let xs : List (ItemOf Listed) = items_of l in
    let all : total (looks v xs) ≡ pos (added (lengths l)) =
    total_all v xs ∙ ap (λ n. pos n) (sym (all-total l)) in
    let taken : total (take k (looks v xs)) ≡ pos (start_of l k) =
    total_taken v xs k ∙ ap (λ n. pos n) (sym (start-total l k)) in
    ap₂ (λ t c. where_so (t && c) (at -ℤ total (take k (looks v xs))))
    (ap (λ z. within (pos 0) z at) all ∙ inside) asked
    ∙ ap (λ z. where_so b (at -ℤ z)) taken

some_as : (b : Bool) (r u w : ℤ) → b ≡ true → r ≡ w → u ≡ w → Some r ≡ where_so b u
some_as true r u w e f g = ap (λ z. Some z) (f ∙ sym g)
some_as false r u w e f g = absurd (cc e)

none_as : (b : Bool) (u : ℤ) → b ≡ false → None ≡ where_so b u
none_as true u e = absurd (cc e)
none_as false u e = refl

-- an instant that a child holds lies inside
pub is_inside : (l : Listed) (at : ℤ) (s : Seat) → IsSeat l at s
    → within (pos 0) (pos (added (lengths l))) at ≡ true
is_inside l at s k =
    let a = k.starts in let b = k.not_before in let c = k.not_behind in
    is_within (pos 0) (pos (added (lengths l))) at (omega (arith, ints, a, b))
    (omega (arith, ints, c, start_inside l (s.index + 1)))

-- where no overlap holds the instant
asked_held : (v : View) (l : Listed) (k : ℕ) (at : ℤ) (s : Seat) → IsSeat l at s → HasNoOverlap l at
    → unwrap_or (is_side (Some k) false (looks v (items_of l)) at)
    (is_holder (Some k) (looks v (items_of l)) at) ≡ (s.index == k)
asked_held v l k at s h none =
    let a = h.starts in let b = h.not_before in let c = h.not_behind in
    let d = start-total l s.index in
    let e = start-total l (s.index + 1) in
    let f = ap (λ n. seeks.total (take n (lens (items_of l)))) (add-one s.index) in
    ap (λ o. unwrap_or o (is_holder (Some k) (looks v (items_of l)) at))
    (side_none v (Some k) false (items_of l) at (λ i. same_holds l at i ∙ none i))
    ∙ holder_is v (Some k) (items_of l) at s.index (omega (arith, ints, a, b, d))
    (omega (arith, ints, c, e, f))
    ∙ here_is s.index k

pub held_some : (v : View) (l : Listed) (k : ℕ) (at r : ℤ) (s : Seat) → IsSeat l at s
    → HasNoOverlap l at → (s.index == k) ≡ true → r ≡ at -ℤ s.start
    → Some r ≡ reached k (looks v (items_of l)) at
held_some v l k at r s h none e f =
    let a = h.starts in
    let same : s.index ≡ k = grind (arith, e) in
    let g : pos (start_of l s.index) ≡ pos (start_of l k) = ap (λ i. pos (start_of l i)) same in
    some_as (s.index == k) r (at -ℤ pos (start_of l k)) (at -ℤ s.start) e f
    (omega (arith, ints, a, g))
    ∙ sym (reached_as v l k at (s.index == k) (is_inside l at s h) (asked_held v l k at s h none))

pub held_none : (v : View) (l : Listed) (k : ℕ) (at : ℤ) (s : Seat) → IsSeat l at s
    → HasNoOverlap l at → (s.index == k) ≡ false
    → None ≡ reached k (looks v (items_of l)) at
held_none v l k at s h none e =
    none_as (s.index == k) (at -ℤ pos (start_of l k)) e
    ∙ sym (reached_as v l k at (s.index == k) (is_inside l at s h) (asked_held v l k at s h none))

-- where an overlap does
asked_side : (v : View) (l : Listed) (k : ℕ) (at : ℤ) (s : Seat) (o p : Option ℕ)
    → IsFirstOverlap l at s → IsBefore l s.index o → IsBehind l (s.index + 1) p
    → unwrap_or (is_side (Some k) false (looks v (items_of l)) at)
    (is_holder (Some k) (looks v (items_of l)) at) ≡ (is_index o k || is_index p k)
asked_side v l k at s o p first before behind =
    ap (λ o. unwrap_or o (is_holder (Some k) (looks v (items_of l)) at))
    (side_found v (Some k) false (items_of l) at s.index (same_holds l at s.index ∙ first.there)
    (λ i h. same_holds l at i ∙ first.none_before i h))
    ∙ ap₂ (λ a b. a || b) (before.side k)
    (ap (λ n. is_next (further n (Some k)) (looks v (drop n (items_of l)))) (sym (add-one s.index))
    ∙ behind.side v k)

index_has : (P : ℕ → Type 0) (o : Option ℕ) (k : ℕ) → is_index o k ≡ true → IfSome o P → P k
index_has P None k e h = absurd (cc e)
index_has P (Some i) k e h = let same : i ≡ k = grind (arith, e) in subst P same h

or_second : (a b : Bool) → a ≡ false → (a || b) ≡ b
or_second true b e = absurd (cc e)
or_second false b e = refl

-- the side before the cut
pub side_before : (v : View) (l : Listed) (k : ℕ) (at r : ℤ) (s : Seat) (o : Option ℕ)
    (x : ItemOf Listed) → within (pos 0) (pos (added (lengths l))) at ≡ true
    → IsFirstOverlap l at s → IsBefore l s.index o
    → is_index o k ≡ true → slice_get (items_of l) k ≡ Some x
    → r ≡ (at -ℤ s.start) +ℤ pos (ticks x) → Some r ≡ reached k (looks v (items_of l)) at
side_before v l k at r s o x inside first before e get f =
    let a = first.starts in
    let b = index_has (λ i. start_of l s.index ≡ start_of l (i + 1)) o k e before.start in
    let c = start_after l k x get in
    let asked : unwrap_or (is_side (Some k) false (looks v (items_of l)) at)
    (is_holder (Some k) (looks v (items_of l)) at) ≡ true =
    ap (λ o. unwrap_or o (is_holder (Some k) (looks v (items_of l)) at))
    (side_found v (Some k) false (items_of l) at s.index (same_holds l at s.index ∙ first.there)
    (λ i h. same_holds l at i ∙ first.none_before i h))
    ∙ or_first _ _ (before.side k ∙ e) in
    some_as true r (at -ℤ pos (start_of l k)) ((at -ℤ s.start) +ℤ pos (ticks x)) refl f
    (omega (arith, ints, a, b, c))
    ∙ sym (reached_as v l k at true inside asked)

cut_start : (l : Listed) (at : ℤ) (j : ℕ) → overlap_holds l at j ≡ true
    → start_of l (j + 1) ≡ start_of l j
cut_start l at j h = by (slice_get (items_of l) j) refl h
  where
    by : (o : Option (ItemOf Listed)) → slice_get (items_of l) j ≡ o
        → holds_by (at -ℤ pos (start_of l j)) o ≡ true → start_of l (j + 1) ≡ start_of l j
    by None e k = absurd (cc k)
    by (Some x) e k = behind_start l j x e (has_overlap x _ k)

-- the side after it
pub side_behind : (v : View) (l : Listed) (k : ℕ) (at r : ℤ) (s : Seat) (o p : Option ℕ)
    → within (pos 0) (pos (added (lengths l))) at ≡ true
    → IsFirstOverlap l at s → IsBefore l s.index o → IsBehind l (s.index + 1) p
    → is_index o k ≡ false → is_index p k ≡ true
    → r ≡ at -ℤ s.start → Some r ≡ reached k (looks v (items_of l)) at
side_behind v l k at r s o p inside first before behind e g f =
    let a = first.starts in
    let b = index_has (λ i. start_of l i ≡ start_of l (s.index + 1)) p k g behind.start in
    let c = cut_start l at s.index first.there in
    some_as (is_index o k || is_index p k) r (at -ℤ pos (start_of l k)) (at -ℤ s.start)
    (or_second _ _ e ∙ g) f (omega (arith, ints, a, b, c))
    ∙ sym (reached_as v l k at (is_index o k || is_index p k) inside
    (asked_side v l k at s o p first before behind))

-- no side
pub side_other : (v : View) (l : Listed) (k : ℕ) (at : ℤ) (s : Seat) (o p : Option ℕ)
    → within (pos 0) (pos (added (lengths l))) at ≡ true
    → IsFirstOverlap l at s → IsBefore l s.index o → IsBehind l (s.index + 1) p
    → is_index o k ≡ false → is_index p k ≡ false
    → None ≡ reached k (looks v (items_of l)) at
side_other v l k at s o p inside first before behind e g =
    none_as (is_index o k || is_index p k) (at -ℤ pos (start_of l k)) (or_second _ _ e ∙ g)
    ∙ sym (reached_as v l k at (is_index o k || is_index p k) inside
    (asked_side v l k at s o p first before behind))

-- ---- what a stack reaches

above_as : (v : View) (l : Listed) (k : ℕ) (x : ItemOf Listed) (at : ℤ) (b : Bool)
    → slice_get (items_of l) k ≡ Some x → within (pos 0) (pos (ticks x)) at ≡ b
    → reached_above k (looks v (items_of l)) at ≡ where_so b at
above_as v l k x at b get e = ap (λ t. where_so t at) (above_is v (items_of l) k x at get ∙ e)

pub above_some : (v : View) (l : Listed) (k : ℕ) (x : ItemOf Listed) (n u r at : ℤ)
    → slice_get (items_of l) k ≡ Some x → n ≡ pos (ticks x) → u ≡ at → r ≡ at
    → within (pos 0) n u ≡ true → Some r ≡ reached_above k (looks v (items_of l)) at
above_some v l k x n u r at get e f g h =
    ap (λ z. Some z) g ∙ sym (above_as v l k x at true get
    (ap₂ (λ m z. within (pos 0) m z) (sym e) (sym f) ∙ h))

pub above_none : (v : View) (l : Listed) (k : ℕ) (x : ItemOf Listed) (n u at : ℤ)
    → slice_get (items_of l) k ≡ Some x → n ≡ pos (ticks x) → u ≡ at
    → within (pos 0) n u ≡ false → None ≡ reached_above k (looks v (items_of l)) at
above_none v l k x n u at get e f h =
    sym (above_as v l k x at false get
    (ap₂ (λ m z. within (pos 0) m z) (sym e) (sym f) ∙ h))

-- ---- bounds

-- what lies in a length is near
pub near_within : (n u at : ℤ) → within (pos 0) n u ≡ true → u ≡ at → n ≤ℤ pos most_ticks
    → IsNear at
near_within n u at h e m =
    let p = both (int_le (pos 0) u) (int_lt u n) h in
    let a = le_is (pos 0) u p.0 in let b = lt_is u n p.1 in record {
      low = omega (arith, ints, a, e);
      high = omega (arith, ints, b, e, m);
    }

pub seat_low : (l : Listed) (at : ℤ) (s : Seat) → IsSeat l at s → pos 0 ≤ℤ at
seat_low l at s k = let a = k.starts in let b = k.not_before in omega (arith, ints, a, b)

pub seat_high : (l : Listed) (at : ℤ) (s : Seat) → IsSeat l at s
    → added (lengths l) ≤ most_ticks → at ≤ℤ pos most_ticks
seat_high l at s k h =
    let c = k.not_behind in omega (arith, ints, c, start_inside l (s.index + 1), h)

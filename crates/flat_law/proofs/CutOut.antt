-- A window shows on each enabled track what the list without the transitions that meet its ends shows there.
use Rattle.std.proofs.Common.{◌≡◌, refl, sym, subst, ap, ◌∙◌, inl, ℕ, ℤ, pos, ◌+ℤ◌, ◌-ℤ◌, ◌≤ℤ◌, ◌<ℤ◌, ◌&&◌, Bool, true, false, Option, Some, None, cond, List, [], ◌∷◌, map, arith}
use Rattle.std.specs.Prelude.{int_lt, int_le, option_map, option_and_then, is_some}
use Rattle.std.specs.Option.{option_or}
use Rattle.std.proofs.lemmas.Int.{ints, by_lt_z}
use Rattle.tick_time.specs.declared.rates.Rate.{Rate}
use Rattle.tick_time.specs.declared.spans.Span.{Span}
use Rattle.otio_model.specs.declared.compositions.ItemOf.{ItemOf}
use Rattle.otio_model.specs.declared.compositions.ItemOf.TheVariants.{Clip, Gap, Transition, Stack, Track}
use Rattle.otio_model.specs.declared.compositions.TrackOf.{TrackOf}
use Rattle.otio_model.specs.declared.compositions.Listed.{Listed}
use Rattle.otio_model.specs.Trees.{items_of}
use Rattle.otio_model.specs.Lengths.{Range, range_of, sum_of, clip_range}
use Rattle.coord.specs.Looks.{Blank, Look, FrameRate, list_shows, track_shows, total}
use Rattle.otio_model.specs.Overlaps.{within}
use Rattle.coord.specs.Speeds.{speed_of}
use Rattle.coord.specs.Sights.{viewer, View, sight, sights, seen, looks, lengths_seen, overlap_of}
use Rattle.otio_model.specs.Lengths.{or_zero, trimmed_start}
use Rattle.coord.specs.Programs.{child_shows}
use Rattle.coord.proofs.SightLemmas.{sights-items}
use Rattle.edits.specs.Splices as L
use Rattle.edits.specs.Splices.{AreGood, is_stripped}
use Rattle.edits.specs.Children.{Child, Old, Ranged, ticks, child_looks, made, all_made, with_range}
use Rattle.edits.specs.Cuts.{left_piece, right_piece, is_whole_at, strip, olds, back, cuts_whole}
use Rattle.edits.specs.Edges.{added}
use Rattle.edits.specs.Steady.{IsBlind, IsRangedBefore, AreRangedBefore}
use Rattle.coord.proofs.LookSteps.{missed_behind, missed_before, is_within}
use Rattle.edits_law.proofs.Splice.{cases, Place, place, stop, whole, inside, good_back}
use Rattle.edits_law.proofs.Pieces.{left_looks, no_transition, back_looks}
use Rattle.coord.proofs.Members.{same_some}
use Rattle.edits_law.proofs.Made.{made_look, made_looks, first_of_two}
use Rattle.flat.specs.Windowed.{front_alone, window_of}
use Rattle.std.proofs.lemmas.Slice.Eq.{bytes_eq-Decides}
use Rattle.flat_law.proofs.Givers.{IsBare, plain_inside, sights_look, sum_total, sum_parts, twice}
use Rattle.flat_law.proofs.Stretches.{range_of_made, sum_more}
use Rattle.flat_law.proofs.Windows.{front_only, IsCutOut, cut_out, stripped_clear, blank_both}

-- ---- the front of items looks like that of their looks

pub front_looks : (v : View) (l : List (ItemOf Listed)) (t : ℤ) → child_looks v (front_alone l t) ≡ front_only (looks v l) t
front_looks v [] t = refl
front_looks v (x ∷ l) t = by_lt_z (pos 0) t
    (λ h. let e : int_lt (pos 0) t ≡ true = grind (arith, ints) in by_lt_z t (ticks x)
    (λ k. let f : int_le (ticks x) t ≡ false = grind (arith, ints) in rw (e, f) (ap (λ y. y ∷ []) (left_looks v x t (no_transition x t h k))))
    (λ k. let f : int_le (ticks x) t ≡ true = grind (arith, ints) in rw (e, f) (ap (λ m. seen v (sight x) ∷ m) (front_looks v l (t -ℤ ticks x)))))
    (λ h. let e : int_lt (pos 0) t ≡ false = grind (arith, ints) in rw e)

-- what is cut has a range already
pub ranged_in : (x : ItemOf Listed) (t s n : ℤ) → pos 0 <ℤ t → t <ℤ ticks x → IsRangedBefore (Ranged x s n)
ranged_in (Clip c) t s n h k = of (clip_range c) c.source_range (omega (arith, ints, h, k))
  where
    of : (o p : Option Span) → pos 0 <ℤ pos (or_zero (option_map (λ (r : Range). r.len) (option_or (option_map range_of p) (option_map range_of o)))) → is_some (option_or o p) ≡ true
    of (Some a) p m = refl
    of None (Some b) m = refl
    of None None m = absurd (omega (arith, ints, m))
ranged_in (Gap c) t s n h k = tt
ranged_in (Transition c) t s n h k = absurd (omega (arith, ints, h, k))
ranged_in (Stack c) t s n h k = tt
ranged_in (Track c) t s n h k = tt

pub ranged_olds : (l : List (ItemOf Listed)) → AreRangedBefore (olds l)
ranged_olds [] = tt
ranged_olds (x ∷ l) = (tt, ranged_olds l)

-- the steps of a front and of a back
pub front_past : (x : ItemOf Listed) (l : List (ItemOf Listed)) (t : ℤ) → pos 0 <ℤ t → ticks x ≤ℤ t → front_alone (x ∷ l) t ≡ Old x ∷ front_alone l (t -ℤ ticks x)
front_past x l t h k = let e : int_lt (pos 0) t ≡ true = grind (arith, ints) in let f : int_le (ticks x) t ≡ true = grind (arith, ints) in rw (e, f)

pub front_in : (x : ItemOf Listed) (l : List (ItemOf Listed)) (t : ℤ) → pos 0 <ℤ t → t <ℤ ticks x → front_alone (x ∷ l) t ≡ left_piece x t ∷ []
front_in x l t h k = let e : int_lt (pos 0) t ≡ true = grind (arith, ints) in let f : int_le (ticks x) t ≡ false = grind (arith, ints) in rw (e, f)

pub front_before : (x : ItemOf Listed) (l : List (ItemOf Listed)) (t : ℤ) → t ≤ℤ pos 0 → front_alone (x ∷ l) t ≡ []
front_before x l t h = let e : int_lt (pos 0) t ≡ false = grind (arith, ints) in rw e

pub back_past : (x : ItemOf Listed) (l : List (ItemOf Listed)) (t : ℤ) → pos 0 <ℤ t → ticks x ≤ℤ t → back (x ∷ l) t ≡ back l (t -ℤ ticks x)
back_past x l t h k = let e : int_lt (pos 0) t ≡ true = grind (arith, ints) in let f : int_le (ticks x) t ≡ true = grind (arith, ints) in rw (e, f)

pub back_in : (x : ItemOf Listed) (l : List (ItemOf Listed)) (t : ℤ) → pos 0 <ℤ t → t <ℤ ticks x → back (x ∷ l) t ≡ right_piece x t ∷ olds l
back_in x l t h k = let e : int_lt (pos 0) t ≡ true = grind (arith, ints) in let f : int_le (ticks x) t ≡ false = grind (arith, ints) in rw (e, f)

pub back_before : (x : ItemOf Listed) (l : List (ItemOf Listed)) (t : ℤ) → t ≤ℤ pos 0 → back (x ∷ l) t ≡ olds (x ∷ l)
back_before x l t h = let e : int_lt (pos 0) t ≡ false = grind (arith, ints) in rw e

pub whole_past : (x : ItemOf Listed) (l : List (ItemOf Listed)) (t : ℤ) → pos 0 <ℤ t → ticks x ≤ℤ t → cuts_whole (x ∷ l) t ≡ cuts_whole l (t -ℤ ticks x)
whole_past x l t h k = let e : int_lt (pos 0) t ≡ true = grind (arith, ints) in let f : int_le (ticks x) t ≡ true = grind (arith, ints) in rw (e, f)

pub whole_in : (x : ItemOf Listed) (l : List (ItemOf Listed)) (t : ℤ) → pos 0 <ℤ t → t <ℤ ticks x → cuts_whole (x ∷ l) t ≡ is_whole_at x t
whole_in x l t h k = let e : int_lt (pos 0) t ≡ true = grind (arith, ints) in let f : int_le (ticks x) t ≡ false = grind (arith, ints) in rw (e, f)

pub whole_before : (l : List (ItemOf Listed)) (t : ℤ) → t ≤ℤ pos 0 → cuts_whole l t ≡ true
whole_before [] t h = refl
whole_before (x ∷ l) t h = let e : int_lt (pos 0) t ≡ false = grind (arith, ints) in rw e

front_ranged : (l : List (ItemOf Listed)) (t : ℤ) → AreRangedBefore (front_alone l t)
front_ranged [] t = tt
front_ranged (x ∷ l) t = elim (place t (ticks x)) [
  | stop s ↦ subst AreRangedBefore (sym (front_before x l t s)) tt
  | whole s k ↦ subst AreRangedBefore (sym (front_past x l t s k)) (tt, front_ranged l (t -ℤ ticks x))
  | inside s k ↦ subst AreRangedBefore (sym (front_in x l t s k)) (ranged_in x t _ _ s k, tt)
]

back_ranged : (l : List (ItemOf Listed)) (t : ℤ) → AreRangedBefore (back l t)
back_ranged [] t = tt
back_ranged (x ∷ l) t = elim (place t (ticks x)) [
  | stop s ↦ subst AreRangedBefore (sym (back_before x l t s)) (ranged_olds (x ∷ l))
  | whole s k ↦ subst AreRangedBefore (sym (back_past x l t s k)) (back_ranged l (t -ℤ ticks x))
  | inside s k ↦ subst AreRangedBefore (sym (back_in x l t s k)) (ranged_in x t _ _ s k, ranged_olds l)
]

-- ---- what was cut off behind can be cut before

speed_range : (w : Span) (x : ItemOf Listed) → speed_of (with_range w x) ≡ speed_of x
speed_range w (Clip c) = refl
speed_range w (Gap c) = refl
speed_range w (Transition c) = refl
speed_range w (Stack c) = refl
speed_range w (Track c) = refl

whole_made : (r : Rate) (x : ItemOf Listed) (s n t : ℤ) (z : ItemOf Listed) → made r (Ranged x s n) ≡ Some z → is_whole_at x t ≡ true → is_whole_at z t ≡ true
whole_made r x s n t z e h = let m = range_of_made r x s n z e in let f : speed_of z ≡ speed_of x = ap speed_of (sym m.1) ∙ speed_range m.0 x in rw f h

none_made : (r : Rate) (m : List (ItemOf Listed)) → all_made r [] ≡ Some m → m ≡ []
none_made r m e = sym (same_some [] m e)

pub front_whole : (v : View) (r : Rate) (l : List (ItemOf Listed)) (b a : ℤ) (m : List (ItemOf Listed)) → IsBlind v → all_made r (front_alone l b) ≡ Some m → cuts_whole l a ≡ true → cuts_whole m a ≡ true
front_whole v r [] b a m blind e c = ap (λ q. cuts_whole q a) (none_made r m e)
front_whole v r (x ∷ l) b a m blind e c = elim (place b (ticks x)) [
  | stop s ↦ ap (λ q. cuts_whole q a) (none_made r m (sym (ap (all_made r) (front_before x l b s)) ∙ e))
  | whole s k ↦
      let two = first_of_two (Some x) (all_made r (front_alone l (b -ℤ ticks x))) m (sym (ap (all_made r) (front_past x l b s k)) ∙ e) in
      let same : two.0 ≡ x = sym (same_some x two.0 two.2) in
      let is : m ≡ x ∷ two.1 = two.4 ∙ ap (λ y. y ∷ two.1) same in
      ap (λ q. cuts_whole q a) is ∙ elim (place a (ticks x)) [
        | stop g ↦ whole_before (x ∷ two.1) a g
        | whole g h ↦ whole_past x two.1 a g h ∙ front_whole v r l (b -ℤ ticks x) (a -ℤ ticks x) two.1 blind two.3 (sym (whole_past x l a g h) ∙ c)
        | inside g h ↦ whole_in x two.1 a g h ∙ sym (whole_in x l a g h) ∙ c
      ]
  | inside s k ↦
      let two = first_of_two (made r (left_piece x b)) (all_made r []) m (sym (ap (all_made r) (front_in x l b s k)) ∙ e) in
      let z = two.0 in
      let none : two.1 ≡ [] = none_made r two.1 two.3 in
      let is : m ≡ z ∷ [] = two.4 ∙ ap (λ q. z ∷ q) none in
      let len : ticks z ≡ b = ap (λ (q : Look). q.length) (made_look v r (left_piece x b) z two.2 (ranged_in x b _ _ s k) (inl blind)) in
      ap (λ q. cuts_whole q a) is ∙ elim (place a (ticks z)) [
        | stop g ↦ whole_before (z ∷ []) a g
        | whole g h ↦ whole_past z [] a g h
        | inside g h ↦ whole_in z [] a g h ∙ whole_made r x (trimmed_start {C = Listed} x) b a z two.2 (sym (whole_in x l a g (omega (arith, ints))) ∙ c)
      ]
]

-- ---- all lengths are known

abbrev pub AreKnown : List (ItemOf Listed) → Type 0
AreKnown [] = Unit {0}
AreKnown (x ∷ l) = ((n : ℕ) × ((sight x).length ≡ Some n)) × AreKnown l

pub known_sum : (l : List (ItemOf Listed)) → AreKnown l → (n : ℕ) × (sum_of (lengths_seen (map sight l)) ≡ Some n)
known_sum [] k = (0, refl)
known_sum (x ∷ l) k = sum_more (sight x) (map sight l) k.0 (known_sum l k.1)

pub sum_known : (l : List (ItemOf Listed)) (n : ℕ) → sum_of (lengths_seen (map sight l)) ≡ Some n → AreKnown l
sum_known [] n e = tt
sum_known (x ∷ l) n e = let p = sum_parts (sight x).length (sum_of (lengths_seen (map sight l))) n e in ((p.0, p.2), sum_known l p.1 p.3)

pub known_strip : (l : List (ItemOf Listed)) (a b : ℤ) → AreKnown l → AreKnown (strip l a b)
known_strip [] a b k = tt
known_strip (x ∷ l) a b k = cases (is_stripped a b (overlap_of x)) (λ t. rw t (known_strip l a b k.1)) (λ t. rw t (k.0, known_strip l (a -ℤ ticks x) (b -ℤ ticks x) k.1))

abbrev pub AreKnownChildren : List Child → Type 0
AreKnownChildren [] = Unit {0}
AreKnownChildren ((Old x) ∷ l) = ((n : ℕ) × ((sight x).length ≡ Some n)) × AreKnownChildren l
AreKnownChildren ((Ranged x s n) ∷ l) = AreKnownChildren l

known_range : (w : Span) (x : ItemOf Listed) → (n : ℕ) × ((sight (with_range w x)).length ≡ Some n)
known_range w (Clip c) = (_, refl)
known_range w (Gap c) = (_, refl)
known_range w (Transition c) = (0, refl)
known_range w (Stack c) = (_, refl)
known_range w (Track c) = (_, refl)

pub known_made : (r : Rate) (c : List Child) (m : List (ItemOf Listed)) → all_made r c ≡ Some m → AreKnownChildren c → AreKnown m
known_made r [] m e k = subst AreKnown (same_some [] m e) tt
known_made r ((Old x) ∷ c) m e k =
    let two = first_of_two (Some x) (all_made r c) m e in
    subst AreKnown (sym two.4) (subst (λ y. (n : ℕ) × ((sight y).length ≡ Some n)) (same_some x two.0 two.2) k.0, known_made r c two.1 two.3 k.1)
known_made r ((Ranged x s n) ∷ c) m e k =
    let two = first_of_two (made r (Ranged x s n)) (all_made r c) m e in
    let w = range_of_made r x s n two.0 two.2 in
    subst AreKnown (sym two.4) (subst (λ y. (j : ℕ) × ((sight y).length ≡ Some j)) w.1 (known_range w.0 x), known_made r c two.1 two.3 k)

pub known_olds : (l : List (ItemOf Listed)) → AreKnown l → AreKnownChildren (olds l)
known_olds [] k = tt
known_olds (x ∷ l) k = (k.0, known_olds l k.1)

known_front : (l : List (ItemOf Listed)) (t : ℤ) → AreKnown l → AreKnownChildren (front_alone l t)
known_front [] t k = tt
known_front (x ∷ l) t k = elim (place t (ticks x)) [
  | stop s ↦ subst AreKnownChildren (sym (front_before x l t s)) tt
  | whole s h ↦ subst AreKnownChildren (sym (front_past x l t s h)) (k.0, known_front l (t -ℤ ticks x) k.1)
  | inside s h ↦ subst AreKnownChildren (sym (front_in x l t s h)) tt
]

known_back : (l : List (ItemOf Listed)) (t : ℤ) → AreKnown l → AreKnownChildren (back l t)
known_back [] t k = tt
known_back (x ∷ l) t k = elim (place t (ticks x)) [
  | stop s ↦ subst AreKnownChildren (sym (back_before x l t s)) (known_olds (x ∷ l) k)
  | whole s h ↦ subst AreKnownChildren (sym (back_past x l t s h)) (known_back l (t -ℤ ticks x) k.1)
  | inside s h ↦ subst AreKnownChildren (sym (back_in x l t s h)) (known_olds l k.1)
]

-- ---- the window of a list

pub data Windowing (v : View) (s : List (ItemOf Listed)) (a b : ℤ) (m : List (ItemOf Listed)) : Type 0 where
  early : total (looks v s) ≤ℤ a → m ≡ [] → Windowing v s a b m
  cut : a <ℤ total (looks v s) → IsCutOut (looks v s) a b (looks v m) → AreKnown m → Windowing v s a b m

and_then : (o : Option (List (ItemOf Listed))) (f : List (ItemOf Listed) → Option (List (ItemOf Listed))) (m : List (ItemOf Listed)) → option_and_then f o ≡ Some m → (z : List (ItemOf Listed)) × (o ≡ Some z) × (f z ≡ Some m)
and_then None f m e = absurd (cc e)
and_then (Some z) f m e = (z, refl, e)

pub added_total : (v : View) (l : List (ItemOf Listed)) → total (looks v l) ≡ added l
added_total v [] = refl
added_total v (x ∷ l) = ap (λ z. ticks x +ℤ z) (added_total v l)

pub record IsClearOf (v : View) (s : List (ItemOf Listed)) (a b : ℤ) : Type 0 where
  pub good : AreGood (looks v s)
  pub first : Rattle.edits_law.proofs.Splice.AreClear a a (looks v s)
  pub second : Rattle.edits_law.proofs.Splice.AreClear b b (looks v s)

pub windowing : (v : View) (r : Rate) (s : List (ItemOf Listed)) (a b : ℤ) (m : List (ItemOf Listed)) → IsBlind v → IsClearOf v s a b → pos 0 ≤ℤ a → a ≤ℤ b → cuts_whole s a ≡ true → AreKnown s
    → window_of r a b s ≡ Some m → Windowing v s a b m
windowing v r s a b m blind c n h w k e = by_lt_z a (added s)
    (λ late.
    let f : int_le (added s) a ≡ false = grind (arith, ints) in
    let two = and_then (all_made r (front_alone s b)) (λ q. all_made r (back q a)) m (rw f at e) in
    let q = two.0 in
    let front : looks v q ≡ front_only (looks v s) b = made_looks v r (front_alone s b) q two.1 (front_ranged s b) (inl blind) ∙ front_looks v s b in
    let full : looks v m ≡ L.back (looks v q) a = made_looks v r (back q a) m two.2 (back_ranged q a) (inl blind) ∙ back_looks v q a (front_whole v r s b a q blind two.1 w) in
    let is : looks v m ≡ L.back (front_only (looks v s) b) a = full ∙ ap (λ z. L.back z a) front in
    let long = added_total v s in
    cut (omega (arith, ints)) (subst (IsCutOut (looks v s) a b) (sym is) (cut_out (looks v s) a b c.good c.first c.second n h (omega (arith, ints))
    (good_back (front_only (looks v s) b) a (Rattle.flat_law.proofs.Windows.only_good (looks v s) b c.good))))
    (known_made r (back q a) m two.2 (known_back q a (known_made r (front_alone s b) q two.1 (known_front s b k)))))
    (λ over.
    let f : int_le (added s) a ≡ true = grind (arith, ints) in
    let long = added_total v s in
    early (omega (arith, ints)) (sym (same_some [] m (rw f at e))))

-- ---- a plain track

pub plain_known : (v : View) (t : TrackOf Listed) (n : ℕ) → IsBare t → sum_of (lengths_seen (map sight (items_of t.children))) ≡ Some n → ticks (Track t) ≡ total (looks v (items_of t.children))
plain_known v t n b e =
    let h : sum_of (lengths_seen (sights t.children)) ≡ Some n = ap (λ l. sum_of (lengths_seen l)) (sights-items t.children) ∙ e in
    let a : total (looks v (items_of t.children)) ≡ pos n = ap total (sym (sights_look v t.children)) ∙ sum_total v (sights t.children) n h in
    let c : ticks (Track t) ≡ pos n = rw (b.range, h) refl in
    c ∙ sym a

pub any_plain : (rate_kept : FrameRate → FrameRate) (t : TrackOf Listed) (n : ℕ) (u : ℤ) → IsBare t → sum_of (lengths_seen (map sight (items_of t.children))) ≡ Some n
    → child_shows rate_kept (Track t) u ≡ cond (t.enabled && within (pos 0) (total (looks (viewer rate_kept (t.kind)) (items_of t.children))) u) (list_shows (looks (viewer rate_kept (t.kind)) (items_of t.children)) u) Blank
any_plain rate_kept t n u b e = cases t.enabled
    (λ on.
    ap (λ z. cond (within (pos 0) (ticks (Track t)) u) z Blank) (plain_inside (viewer rate_kept (t.kind)) t u b on ((bytes_eq-Decides t.kind t.kind).1 refl))
    ∙ ap (λ z. cond (within (pos 0) z u) (track_shows (looks (viewer rate_kept (t.kind)) (items_of t.children)) u) Blank) (plain_known (viewer rate_kept (t.kind)) t n b e)
    ∙ twice (within (pos 0) (total (looks (viewer rate_kept (t.kind)) (items_of t.children))) u) (list_shows (looks (viewer rate_kept (t.kind)) (items_of t.children)) u)
    ∙ rw on refl)
    (λ off. rw off (blank_both (within (pos 0) (ticks (Track t)) u)))

-- inside the window and the track, and nowhere else
pub same_window : (v : View) (on : Bool) (s : List (ItemOf Listed)) (a b u w : ℤ) (m : List (ItemOf Listed)) → Windowing v s a b m → w ≡ (u +ℤ a) → a ≤ℤ b → pos 0 ≤ℤ a
    → cond (on && within (pos 0) (total (looks v m)) u) (list_shows (looks v m) u) Blank
    ≡ cond (on && (within a b w && within (pos 0) (total (looks v s)) w)) (list_shows (looks v s) w) Blank
same_window v false s a b u w m i e h n = refl
same_window v true s a b u w m (early k f) e h n = rw f (by_lt_z u (pos 0)
    (λ j. rw (missed_before (pos 0) (pos 0) u j, missed_before a b w (omega (arith, ints))) refl)
    (λ j. rw (missed_behind (pos 0) (pos 0) u j) (sym (dark (within a b w) (within (pos 0) (total (looks v s)) w) (missed_behind (pos 0) (total (looks v s)) w (omega (arith, ints)))))))
  where
    dark : (c d : Bool) → d ≡ false → cond (c && d) (list_shows (looks v s) w) Blank ≡ Blank
    dark true d g = rw g refl
    dark false d g = refl
same_window v true s a b u w m (cut k c lengths_known) e h n = by_lt_z u (pos 0)
    (λ j. rw (missed_before (pos 0) (total (looks v m)) u j, missed_before a b w (omega (arith, ints))) refl)
    (λ j. by_lt_z (total (looks v s)) b
    (λ short. let t = c.long (omega (arith, ints)) in by_lt_z w (total (looks v s))
    (λ g. rw (is_within (pos 0) (total (looks v m)) u j (omega (arith, ints)), is_within a b w (omega (arith, ints)) (omega (arith, ints)), is_within (pos 0) (total (looks v s)) w (omega (arith, ints)) g)
    (c.shows u j (omega (arith, ints)) ∙ ap (list_shows (looks v s)) (sym e)))
    (λ g. rw (missed_behind (pos 0) (total (looks v m)) u (omega (arith, ints))) (sym (dark (within a b w) (within (pos 0) (total (looks v s)) w) (missed_behind (pos 0) (total (looks v s)) w g)))))
    (λ long. let t = c.short long in by_lt_z w b
    (λ g. rw (is_within (pos 0) (total (looks v m)) u j (omega (arith, ints)), is_within a b w (omega (arith, ints)) g, is_within (pos 0) (total (looks v s)) w (omega (arith, ints)) (omega (arith, ints)))
    (c.shows u j (omega (arith, ints)) ∙ ap (list_shows (looks v s)) (sym e)))
    (λ g. rw (missed_behind (pos 0) (total (looks v m)) u (omega (arith, ints)), missed_behind a b w g) refl)))
  where
    dark : (c d : Bool) → d ≡ false → cond (c && d) (list_shows (looks v s) w) Blank ≡ Blank
    dark true d g = rw g refl
    dark false d g = refl

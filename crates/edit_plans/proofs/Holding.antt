-- The child that holds an instant, by its index and its start.
use Rattle.std.proofs.Common.{◌≡◌, refl, sym, subst, ap, ap₂, ◌∙◌, ℕ, zero, suc, ◌+◌}
use Rattle.std.proofs.Common.{ℤ, pos, ◌+ℤ◌, ◌-ℤ◌, ◌≤ℤ◌, ◌<ℤ◌, Bool, true, false, arith}
use Rattle.std.proofs.Common.{List, [], ◌∷◌, Option, Some, None, take, drop}
use Rattle.std.specs.Prelude.{int_lt, int_le, ◌&&◌, ◌%◌, ◌==◌, ◌*ℤ◌, unsigned_abs, option_map}
use Rattle.std.specs.Prelude.{IfNone, IfSome, slice_get}
use Rattle.std.proofs.lemmas.Int.{ints, by_lt_z}
use Rattle.std.proofs.lemmas.Bool.{and_right as and_no, and_from as both}
pub use Rattle.limits.proofs.ListLemmas.{element-within as got}
use Rattle.otio_model.specs.declared.compositions.ItemOf.{ItemOf}
use Rattle.otio_model.specs.declared.compositions.Listed.{Listed}
use Rattle.otio_model.specs.declared.seeks.Seat.{Seat}
use Rattle.otio_model.specs.Lengths.{start_of, lengths}
use Rattle.otio_model.specs.Lengths as lengths_of
use Rattle.otio_model.specs.Overlaps.{within}
use Rattle.otio_model.specs.Seats.{IsSeat, IsOutside}
use Rattle.otio_model.specs.Seeks.{lens, total}
use Rattle.otio_model.specs.Trees.{items_of}
use Rattle.otio_model.proofs.SeekLemmas.{start-total, all-total}
use Rattle.coord.specs.Speeds.{speed_of}
use Rattle.edits.specs.Children.{ticks}
use Rattle.edits.specs.Cuts.{cuts_whole, is_whole_at}
use Rattle.edits.specs.Edges.{added, Held, held_at, held_behind, start, end}
use Rattle.edits_law.proofs.Parted.{added_low}
use Rattle.pieces.proofs.Grown.{ticks_are}
use Rattle.pieces.proofs.Tests.{lt_yes, lt_no, le_yes, le_no}
use Rattle.edit_plans.specs.Parts.{IsHeldAt}

-- ---- whether a child holds an instant

and_not : (a b : Bool) → a ≡ false → (a && b) ≡ false
and_not a b e = rw e refl

not_yet : (n w : ℤ) → w <ℤ pos 0 → within (pos 0) n w ≡ false
not_yet n w h = and_not (int_le (pos 0) w) (int_lt w n) (le_no (pos 0) w h)

no_longer : (n w : ℤ) → n ≤ℤ w → within (pos 0) n w ≡ false
no_longer n w h = and_no (int_le (pos 0) w) (int_lt w n) (lt_no w n h)

is_within : (n w : ℤ) → pos 0 ≤ℤ w → w <ℤ n → within (pos 0) n w ≡ true
is_within n w h k = both (int_le (pos 0) w) (int_lt w n) (le_yes (pos 0) w h) (lt_yes w n k)

-- ---- the child that holds it

held_before : (l : List (ItemOf Listed)) (w : ℤ) → w <ℤ pos 0 → held_at l w ≡ None
held_before [] w h = refl
held_before (x ∷ l) w h =
    rw (not_yet (ticks x) w h)
    (ap (option_map (held_behind x)) (held_before l (w -ℤ ticks x) (omega (arith, ints, h))))

held_past : (l : List (ItemOf Listed)) (w : ℤ) → added l ≤ℤ w → held_at l w ≡ None
held_past [] w h = refl
held_past (x ∷ l) w h =
    let low = added_low l in
    rw (no_longer (ticks x) w (omega (arith, ints, h, low)))
    (ap (option_map (held_behind x)) (held_past l (w -ℤ ticks x) (omega (arith, ints, h))))

-- the child at an index, with those before and after it
abbrev pub held_by : List (ItemOf Listed) → ℕ → ItemOf Listed → Held
held_by l i x = record { before = take i l; item = x; behind = drop (suc i) l }

pub held_there : (l : List (ItemOf Listed)) (w : ℤ) (i : ℕ) (x : ItemOf Listed)
    → slice_get l i ≡ Some x → added (take i l) ≤ℤ w → w <ℤ (added (take i l) +ℤ ticks x)
    → held_at l w ≡ Some (held_by l i x)
held_there [] w zero x e h k = absurd (cc e)
held_there [] w (suc i) x e h k = absurd (cc e)
held_there (y ∷ l) w zero x e h k =
    let same : y ≡ x = cc e in
    let yes : within (pos 0) (ticks y) w ≡ true = is_within (ticks y) w (omega (arith, ints, h))
    (subst (λ z. w <ℤ ticks z) (sym same) (omega (arith, ints, k))) in
    rw yes (ap (λ z. Some (record { before = []; item = z; behind = l })) same)
held_there (y ∷ l) w (suc i) x e h k =
    let low = added_low (take i l) in
    let no : within (pos 0) (ticks y) w ≡ false =
    no_longer (ticks y) w (omega (arith, ints, h, low)) in
    let rest : held_at l (w -ℤ ticks y) ≡ Some (held_by l i x) =
    held_there l (w -ℤ ticks y) i x e (omega (arith, ints, h)) (omega (arith, ints, k)) in
    rw no (ap (option_map (held_behind y)) rest)

-- the child that is held starts at or before the instant and ends after it
is_in : (n w : ℤ) → within (pos 0) n w ≡ true → (pos 0 ≤ℤ w) × (w <ℤ n)
is_in n w e = by_lt_z w (pos 0) (λ h. absurd (cc (e, not_yet n w h)))
    (λ h. by_lt_z w n (λ k. (h, k)) (λ k. absurd (cc (e, no_longer n w k))))

abbrev IsAround : ℤ → Held → Type 0
IsAround w h = (start h ≤ℤ w) × (w <ℤ end h)

around_behind : (x : ItemOf Listed) (w : ℤ) (o : Option Held) (h : Held)
    → ((k : Held) → o ≡ Some k → IsAround (w -ℤ ticks x) k)
    → option_map (held_behind x) o ≡ Some h → IsAround w h
around_behind x w None h f e = absurd (cc e)
around_behind x w (Some k) h f e =
    let same : held_behind x k ≡ h = cc e in
    let g = f k refl in
    subst (IsAround w) same (omega (arith, ints, g.0), omega (arith, ints, g.1))

pub held_within : (l : List (ItemOf Listed)) (w : ℤ) (h : Held) → held_at l w ≡ Some h
    → (start h ≤ℤ w) × (w <ℤ end h)
held_within [] w h e = absurd (cc e)
held_within (x ∷ l) w h e =
    by (within (pos 0) (ticks x) w) refl (λ k f. held_within l (w -ℤ ticks x) k f)
  where
    by : (t : Bool) → within (pos 0) (ticks x) w ≡ t
        → ((k : Held) → held_at l (w -ℤ ticks x) ≡ Some k → IsAround (w -ℤ ticks x) k)
        → IsAround w h
    by true s f =
        let here : Some (record { before = []; item = x; behind = l }) ≡ Some h = rw s at e in
        let same : record { before = []; item = x; behind = l } ≡ h = cc here in
        let g = is_in (ticks x) w s in
        subst (IsAround w) same (omega (arith, ints, g.0), omega (arith, ints, g.1))
    by false s f = around_behind x w (held_at l (w -ℤ ticks x)) h f (rw s at e)

-- ---- seats

-- starts as the model counts them and as lengths added up
pub sum_ticks : (l : List (ItemOf Listed)) → pos (total (lens l)) ≡ added l
sum_ticks [] = refl
sum_ticks (x ∷ l) = let e = sum_ticks l in let f = ticks_are x in omega (arith, ints, e, f)

lens_take : (l : List (ItemOf Listed)) (i : ℕ) → take i (lens l) ≡ lens (take i l)
lens_take l zero = refl
lens_take [] (suc i) = refl
lens_take (x ∷ l) (suc i) = ap (λ q. lengths_of.or_zero (lengths_of.length_of x) ∷ q)
    (lens_take l i)

pub start_ticks : (l : Listed) (i : ℕ) → pos (start_of l i) ≡ added (take i (items_of l))
start_ticks l i =
    ap pos (start-total l i ∙ ap total (lens_take (items_of l) i)) ∙ sum_ticks (take i (items_of l))

pub all_ticks : (l : Listed) → pos (lengths_of.added (lengths l)) ≡ added (items_of l)
all_ticks l = ap pos (all-total l) ∙ sum_ticks (items_of l)

one_more : (n : ℕ) → suc n ≡ n + 1
one_more n = omega arith

pub take_more : (l : List (ItemOf Listed)) (i : ℕ) (x : ItemOf Listed) → slice_get l i ≡ Some x
    → added (take (i + 1) l) ≡ added (take i l) +ℤ ticks x
take_more l i x e = ap (λ n. added (take n l)) (sym (one_more i)) ∙ by l i x e
  where
    by : (q : List (ItemOf Listed)) (j : ℕ) (y : ItemOf Listed) → slice_get q j ≡ Some y
        → added (take (suc j) q) ≡ added (take j q) +ℤ ticks y
    by [] zero y f = absurd (cc f)
    by [] (suc j) y f = absurd (cc f)
    by (z ∷ q) zero y f = let same : z ≡ y = cc f in rw same (omega (arith, ints))
    by (z ∷ q) (suc j) y f = let g = by q j y f in omega (arith, ints, g)

-- where the child at an index starts and ends, which holds the instant
pub record IsSeated (l : List (ItemOf Listed)) (w : ℤ) (i : ℕ) (at : ℤ) (x : ItemOf Listed) : Type 0
  where
    pub starts : at ≡ added (take i l)
    pub low : pos 0 ≤ℤ at
    pub not_before : at ≤ℤ w
    pub not_behind : w <ℤ (at +ℤ ticks x)

pub seated : (l : List (ItemOf Listed)) (w : ℤ) (i : ℕ) (at : ℤ) (x : ItemOf Listed)
    → IsHeldAt l w i at → slice_get l i ≡ Some x → IsSeated l w i at x
seated l w i at x h e =
    let got_item = h.item in
    let same : h.held.item ≡ x = cc (got_item, e) in
    let starts : at ≡ added (take i l) = h.start ∙ ap added h.before in
    let around = held_within l w h.held h.there in
    let begins = h.start in
    let low = added_low (take i l) in
    record {
      starts = starts;
      low = omega (arith, ints, low, starts);
      not_before = omega (arith, ints, around.0, begins);
      not_behind = subst (λ y. w <ℤ (at +ℤ ticks y)) same (omega (arith, ints, around.1, begins));
    }

held_seat : (l : Listed) (w : ℤ) (s : Seat) → IsSeat l w s
    → IsHeldAt (items_of l) w s.index s.start
held_seat l w s h =
    let there = got (items_of l) s.index h.within in
    let starts : s.start ≡ added (take s.index (items_of l)) =
    h.starts ∙ start_ticks l s.index in
    let next : pos (start_of l (s.index + 1)) ≡ added (take s.index (items_of l)) +ℤ ticks there.0 =
    start_ticks l (s.index + 1) ∙ take_more (items_of l) s.index there.0 there.1 in
    let after = h.not_before in
    let before = h.not_behind in
    record {
      held = held_by (items_of l) s.index there.0;
      there = held_there (items_of l) w s.index there.0 there.1
          (omega (arith, ints, starts, after)) (omega (arith, ints, next, before));
      item = there.1;
      before = refl;
      behind = ap (λ n. drop n (items_of l)) (one_more s.index);
      start = starts;
    }

pub all_held : (l : Listed) (w v : ℤ) (o : Option Seat) → IfSome o (λ s. IsSeat l w s) → w ≡ v
    → IfSome o (λ s. IsHeldAt (items_of l) v s.index s.start)
all_held l w v None h e = h
all_held l w v (Some s) h e =
    subst (λ z. IsHeldAt (items_of l) z s.index s.start) e (held_seat l w s h)

held_nowhere : (l : Listed) (w : ℤ) → IsOutside l w → held_at (items_of l) w ≡ None
held_nowhere l w h = by_lt_z w (pos 0) (held_before (items_of l) w)
    (λ k. held_past (items_of l) w (subst (λ z. z ≤ℤ w) (all_ticks l) (h k)))

pub none_held : (l : Listed) (w v : ℤ) (o : Option Seat) → IfNone o (IsOutside l w) → w ≡ v
    → IfNone o (held_at (items_of l) v ≡ None)
none_held l w v None h e = ap (held_at (items_of l)) (sym e) ∙ held_nowhere l w h
none_held l w v (Some s) h e = h

-- ---- cuts

no_product : (p : ℤ) → pos 0 *ℤ p ≡ pos 0
no_product p = omega (arith, ints)

whole_start : (x : ItemOf Listed) (t : ℤ) → t ≡ pos 0 → is_whole_at x t ≡ true
whole_start x t e =
    ap (is_whole_at x) e
    ∙ ap (λ (z : ℤ). unsigned_abs z % 1000000 == 0) (no_product (speed_of x))

start_whole : (l : List (ItemOf Listed)) (t : ℤ) → t ≤ℤ pos 0 → cuts_whole l t ≡ true
start_whole [] t h = refl
start_whole (x ∷ l) t h = rw (lt_no (pos 0) t h) refl

whole_there : (l : List (ItemOf Listed)) (t : ℤ) (i : ℕ) (x : ItemOf Listed) → pos 0 ≤ℤ t
    → slice_get l i ≡ Some x → added (take i l) ≤ℤ t → t <ℤ (added (take i l) +ℤ ticks x)
    → is_whole_at x (t -ℤ added (take i l)) ≡ cuts_whole l t
whole_there [] t zero x z e h k = absurd (cc e)
whole_there [] t (suc i) x z e h k = absurd (cc e)
whole_there (y ∷ l) t zero x z e h k =
    let same : x ≡ y = sym (cc e) in
    let short : t <ℤ ticks y = subst (λ q. t <ℤ ticks q) same (omega (arith, ints, k)) in
    by_lt_z (pos 0) t
    (λ s. rw (lt_yes (pos 0) t s, le_no (ticks y) t short)
    (ap₂ is_whole_at same (omega (arith, ints))))
    (λ s. whole_start x (t -ℤ added (take 0 (y ∷ l))) (omega (arith, ints, z, s))
    ∙ sym (start_whole (y ∷ l) t s))
whole_there (y ∷ l) t (suc i) x z e h k =
    let low = added_low (take i l) in
    by_lt_z (pos 0) t
    (λ s. rw (lt_yes (pos 0) t s, le_yes (ticks y) t (omega (arith, ints, h, low)))
    (ap (is_whole_at x) (omega (arith, ints))
    ∙ whole_there l (t -ℤ ticks y) i x (omega (arith, ints, h, low)) e (omega (arith, ints, h))
    (omega (arith, ints, k))))
    (λ s. whole_start x (t -ℤ added (take (suc i) (y ∷ l))) (omega (arith, ints, z, s, h, low))
    ∙ sym (start_whole (y ∷ l) t s))

whole_past : (l : List (ItemOf Listed)) (t : ℤ) → added l ≤ℤ t → cuts_whole l t ≡ true
whole_past [] t h = refl
whole_past (x ∷ l) t h =
    let low = added_low l in
    by_lt_z (pos 0) t
    (λ s. rw (lt_yes (pos 0) t s, le_yes (ticks x) t (omega (arith, ints, h, low)))
    (whole_past l (t -ℤ ticks x) (omega (arith, ints, h))))
    (λ s. start_whole (x ∷ l) t s)

pub whole_seat : (l : List (ItemOf Listed)) (t w m at : ℤ) (i : ℕ) (x : ItemOf Listed) (b : Bool)
    → IsSeated l t i at x → slice_get l i ≡ Some x → pos 0 ≤ℤ w → t ≡ w → m ≡ t -ℤ at
    → b ≡ is_whole_at x m → b ≡ cuts_whole l w
whole_seat l t w m at i x b k e low h f g =
    let s = k.starts in
    let after = k.not_before in
    let before = k.not_behind in
    g ∙ ap (is_whole_at x) (f ∙ ap₂ (λ y z. y -ℤ z) h s)
    ∙ whole_there l w i x low e (omega (arith, ints, s, h, after))
    (omega (arith, ints, s, h, before))

-- where no child holds the instant, all lie before it
unheld_past : (l : List (ItemOf Listed)) (w : ℤ) → pos 0 ≤ℤ w → held_at l w ≡ None → added l ≤ℤ w
unheld_past [] w h e = h
unheld_past (x ∷ l) w h e = by_lt_z w (ticks x)
    (λ k. absurd (some_none (held_by (x ∷ l) 0 x) (sym (held_there (x ∷ l) w 0 x refl
    (omega (arith, ints, h)) (omega (arith, ints, k))) ∙ e)))
    (λ k. let rest = unheld_past l (w -ℤ ticks x) (omega (arith, ints, k))
    (none_behind x (held_at l (w -ℤ ticks x)) (rw (no_longer (ticks x) w k) at e)) in
    omega (arith, ints, rest))
  where
    some_none : (h : Held) → Some h ≡ None → ⊥
    some_none h e = absurd (cc e)

    none_behind : (x : ItemOf Listed) (o : Option Held) → option_map (held_behind x) o ≡ None
        → o ≡ None
    none_behind x None e = refl
    none_behind x (Some h) e = absurd (cc e)

pub whole_nowhere : (l : List (ItemOf Listed)) (t w : ℤ) → held_at l t ≡ None → t ≡ w
    → pos 0 ≤ℤ w → true ≡ cuts_whole l w
whole_nowhere l t w h e low =
    sym (whole_past l w (unheld_past l w low (ap (held_at l) (sym e) ∙ h)))

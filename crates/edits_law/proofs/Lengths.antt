-- Each child of an edited list has a length.
use Rattle.std.proofs.Common.{◌≡◌, refl, subst, ℤ, pos, ◌+ℤ◌, ◌-ℤ◌, ◌*ℤ◌, ◌&&◌, ◌||◌, true, false, Option, Some, None, List, [], ◌∷◌, ◌++◌, arith}
use Rattle.std.specs.Prelude.{int_lt, int_le, is_some}
use Rattle.std.proofs.lemmas.Int.{ints, by_lt_z}
use Rattle.otio_model.specs.declared.compositions.ItemOf.{ItemOf}
use Rattle.otio_model.specs.declared.compositions.Listed.{Listed}
use Rattle.otio_model.specs.declared.edit_types.Edit.{Edit}
use Rattle.otio_model.specs.declared.edit_types.Edit.TheVariants as A
use Rattle.otio_model.specs.declared.edit_types.FillMode.{FillMode}
use Rattle.otio_model.specs.declared.edit_types.FillMode.TheVariants as M
use Rattle.otio_model.specs.declared.edit_types.RemoveMode.{RemoveMode}
use Rattle.otio_model.specs.declared.edit_types.RemoveMode.TheVariants as R
use Rattle.otio_model.specs.Trees.{is_transition}
use Rattle.coord.specs.Sights.{overlap_of}
use Rattle.edits.specs.Splices.{is_stripped}
use Rattle.edits.specs.Children.{Child, Old, ticks}
use Rattle.edits.specs.Cuts.{strip, olds, front, back, put_between}
use Rattle.edits.specs.Edges.{Held, held_at, first_changed, last_changed, last_item, first_item, moved, slipped_item, grown, gap_of, is_zero, is_gap, is_gap_at, trimmed_before, trimmed_behind, left_before, left_behind, moves_zone, one, Moves, slid, slide_by, slide_zone, slipped, slip_by, rippled, ripple_by, rolled, roll_by, trimmed, trim_by, item_zone}
use Rattle.edits.specs.Edits.{edited, at_held, beside, filling, in_ticks, in_place}
use Rattle.edits.specs.Good.{Suits}
use Rattle.edits_law.specs.Known.{IsKnown, AreKnown, HasLength, HaveLengths, ItemHasLength}
use Rattle.edits_law.proofs.Splice.{cases}
use Rattle.edits_law.proofs.Sorts.{point, thing, sort}
use Rattle.edits_law.proofs.Accepted.{found}
use Rattle.edits_law.proofs.Readied.{no_overlap_last}

join : (l m : List Child) → AreKnown l → AreKnown m → AreKnown (l ++ m)
join [] m a b = b
join (c ∷ l) m a b = (a.0, join l m a.1 b)

all_olds : (l : List (ItemOf Listed)) → HaveLengths l → AreKnown (olds l)
all_olds [] r = tt
all_olds (x ∷ l) r = (r.0, all_olds l r.1)

strip_known : (l : List (ItemOf Listed)) (a b : ℤ) → HaveLengths l → HaveLengths (strip l a b)
strip_known [] a b r = tt
strip_known (x ∷ l) a b r = cases (is_stripped a b (overlap_of x)) (λ s. rw s (strip_known l a b r.1)) (λ s. rw s (r.0, strip_known l (a -ℤ ticks x) (b -ℤ ticks x) r.1))

front_known : (l : List (ItemOf Listed)) (t : ℤ) → HaveLengths l → AreKnown (front l t)
front_known [] t r = cases (int_lt (pos 0) t) (λ s. rw s (tt, tt)) (λ s. rw s tt)
front_known (x ∷ l) t r = by_lt_z (pos 0) t
    (λ h. let e : int_lt (pos 0) t ≡ true = grind (arith, ints) in by_lt_z t (ticks x)
    (λ k. let f : int_le (ticks x) t ≡ false = grind (arith, ints) in rw (e, f) (tt, tt))
    (λ k. let f : int_le (ticks x) t ≡ true = grind (arith, ints) in rw (e, f) (r.0, front_known l (t -ℤ ticks x) r.1)))
    (λ h. let e : int_lt (pos 0) t ≡ false = grind (arith, ints) in rw e tt)

back_known : (l : List (ItemOf Listed)) (t : ℤ) → HaveLengths l → AreKnown (back l t)
back_known [] t r = tt
back_known (x ∷ l) t r = by_lt_z (pos 0) t
    (λ h. let e : int_lt (pos 0) t ≡ true = grind (arith, ints) in by_lt_z t (ticks x)
    (λ k. let f : int_le (ticks x) t ≡ false = grind (arith, ints) in rw (e, f) (tt, all_olds l r.1))
    (λ k. let f : int_le (ticks x) t ≡ true = grind (arith, ints) in rw (e, f) (back_known l (t -ℤ ticks x) r.1)))
    (λ h. let e : int_lt (pos 0) t ≡ false = grind (arith, ints) in rw e (r.0, all_olds l r.1))

between_known : (l : List (ItemOf Listed)) (a b c d : ℤ) (n : List Child) → HaveLengths l → AreKnown n → AreKnown (put_between (strip l a b) c n d)
between_known l a b c d n r k = join (front (strip l a b) c) _ (front_known (strip l a b) c (strip_known l a b r)) (join n _ k (back_known (strip l a b) d (strip_known l a b r)))

-- ---- edges

moved_known : (h t : ℤ) (x : ItemOf Listed) → HasLength x → overlap_of x ≡ None → IsKnown (moved h t x)
moved_known h t x r e = cases (is_zero h && is_zero t) (λ s. rw s r) (λ s. rw s tt)

slipped_known : (d : ℤ) (x : ItemOf Listed) → HasLength x → overlap_of x ≡ None → IsKnown (slipped_item d x)
slipped_known d x r e = cases (is_zero d || is_gap x) (λ s. rw s r) (λ s. rw s tt)

grown_known : (n : ℤ) (x : ItemOf Listed) → HasLength x → overlap_of x ≡ None → AreKnown (grown n x)
grown_known n x r e = cases (is_zero n) (λ s. rw s (r, tt)) (λ s. cases (int_lt (pos 0) (ticks x +ℤ n)) (λ t. rw (s, t) (tt, tt)) (λ t. rw (s, t) tt))

gap_known : (n : ℤ) → AreKnown (gap_of n)
gap_known n = cases (int_lt (pos 0) n) (λ s. rw s (tt, tt)) (λ s. rw s tt)

first_known : (f : ItemOf Listed → List Child) (l : List (ItemOf Listed)) → ((x : ItemOf Listed) → HasLength x → overlap_of x ≡ None → AreKnown (f x)) → HaveLengths l → AreKnown (first_changed f l)
first_known f [] g r = tt
first_known f (x ∷ l) g r = elim (sort x) [
  | point o t e z ↦ rw t (r.0, first_known f l g r.1)
  | thing t e ↦ rw t (join (f x) (olds l) (g x r.0 e) (all_olds l r.1))
]

last_known : (f : ItemOf Listed → List Child) (l : List (ItemOf Listed)) → ((x : ItemOf Listed) → HasLength x → overlap_of x ≡ None → AreKnown (f x)) → HaveLengths l → AreKnown (last_changed f l)
last_known f [] g r = tt
last_known f (x ∷ l) g r = cases (is_some (last_item l) || is_transition x)
    (λ s. rw s (r.0, last_known f l g r.1))
    (λ s. rw s (join (f x) (olds l) (g x r.0 (no_overlap_last (is_some (last_item l)) x s)) (all_olds l r.1)))

ready_first : (l m : List (ItemOf Listed)) → HaveLengths (l ++ m) → HaveLengths l
ready_first [] m r = tt
ready_first (x ∷ l) m r = (r.0, ready_first l m r.1)

ready_second : (l m : List (ItemOf Listed)) → HaveLengths (l ++ m) → HaveLengths m
ready_second [] m r = r
ready_second (x ∷ l) m r = ready_second l m r.1

record HeldKnown (h : Held) : Type 0 where
  before : HaveLengths h.before
  item : HasLength h.item
  thing : overlap_of h.item ≡ None
  behind : HaveLengths h.behind

held_known : (l : List (ItemOf Listed)) (w : ℤ) (h : Held) → HaveLengths l → held_at l w ≡ Some h → HeldKnown h
held_known l w h r e =
    let k = found l w h e in let from = k.from in let to = k.to in
    let s = subst HaveLengths k.parts r in
    let t = ready_second h.before (h.item ∷ h.behind) s in
    record {
      before = ready_first h.before _ s;
      item = t.0;
      thing = elim (sort h.item) [ point o p q z ↦ absurd (omega (arith, ints)) | thing p q ↦ q ];
      behind = t.1;
    }

with_held : (l : List (ItemOf Listed)) (w : ℤ) (g : Held → List Child) → HaveLengths l → ((h : Held) → HeldKnown h → AreKnown (g h)) → AreKnown (at_held l w g)
with_held l w g r k = by (held_at l w) refl
  where
    by : (o : Option Held) → held_at l w ≡ o → AreKnown (at_held l w g)
    by None e = rw (e, at_held) (all_olds l r)
    by (Some h) e = rw (e, at_held) (k h (held_known l w h r e))

filling_known : (mode : FillMode) (x : ItemOf Listed) (room : ℤ) → HasLength x → overlap_of x ≡ None → IsKnown (filling mode x room)
filling_known M.Source x room r e = r
filling_known M.Sequence x room r e = cases (int_lt room (ticks x)) (λ s. rw s tt) (λ s. rw s r)
filling_known M.Fit x room r e = tt

place_known : (mode : RemoveMode) (h : Held) → AreKnown (in_place mode h)
place_known R.Gap h = (tt, tt)
place_known R.Close h = tt

before_known : (h : Held) (m : Moves) → HeldKnown h → AreKnown (trimmed_before h m)
before_known h m r = cases (is_gap_at (last_item h.before))
    (λ s. rw s (last_known (grown m.head) _ (grown_known m.head) (strip_known h.before _ _ r.before)))
    (λ s. rw s (join (olds (left_before h (moves_zone h m))) _ (all_olds _ (strip_known h.before _ _ r.before)) (gap_known m.head)))

behind_known : (h : Held) (m : Moves) → HeldKnown h → AreKnown (trimmed_behind h m)
behind_known h m r = cases (is_gap_at (first_item h.behind))
    (λ s. rw s (first_known (grown (pos 0 -ℤ m.tail)) _ (grown_known (pos 0 -ℤ m.tail)) (strip_known h.behind _ _ r.behind)))
    (λ s. rw s (join (gap_of (pos 0 -ℤ m.tail)) _ (gap_known (pos 0 -ℤ m.tail)) (all_olds (left_behind h (moves_zone h m)) (strip_known h.behind _ _ r.behind))))

trim_known : (h : Held) (m : Moves) → HeldKnown h → AreKnown (trimmed h m)
trim_known h m k = join (trimmed_before h m) (moved m.head m.tail h.item ∷ trimmed_behind h m) (before_known h m k) (moved_known m.head m.tail h.item k.item k.thing, behind_known h m k)

slip_known : (f by : ℤ) (h : Held) → HeldKnown h → AreKnown (slipped f h by)
slip_known f by h k = join (olds h.before) (slipped_item (slip_by f h by) h.item ∷ olds h.behind) (all_olds h.before k.before) (slipped_known (slip_by f h by) h.item k.item k.thing, all_olds h.behind k.behind)

tails_known : (t : ℤ) (l : List (ItemOf Listed)) → HaveLengths l → AreKnown (last_changed (λ y. one (moved (pos 0) t y)) l)
tails_known t l r = last_known (λ y. one (moved (pos 0) t y)) l (λ x p q. (moved_known (pos 0) t x p q, tt)) r

heads_known : (t : ℤ) (l : List (ItemOf Listed)) → HaveLengths l → AreKnown (first_changed (λ z. one (moved t (pos 0) z)) l)
heads_known t l r = first_known (λ z. one (moved t (pos 0) z)) l (λ x p q. (moved_known t (pos 0) x p q, tt)) r

slide_known : (h : Held) (d : ℤ) → HeldKnown h → AreKnown (slid h d)
slide_known h d k = join (last_changed (λ y. one (moved (pos 0) d y)) (left_before h (slide_zone h d))) (Old h.item ∷ olds (left_behind h (slide_zone h d))) (tails_known d (left_before h (slide_zone h d)) (strip_known h.before _ _ k.before)) (k.item, all_olds (left_behind h (slide_zone h d)) (strip_known h.behind _ _ k.behind))

ripple_known : (h : Held) (m : Moves) → HeldKnown h → AreKnown (rippled h m)
ripple_known h m k = join (olds (left_before h (item_zone h))) (moved m.head m.tail h.item ∷ olds (left_behind h (item_zone h))) (all_olds (left_before h (item_zone h)) (strip_known h.before _ _ k.before)) (moved_known m.head m.tail h.item k.item k.thing, all_olds (left_behind h (item_zone h)) (strip_known h.behind _ _ k.behind))

roll_known : (h : Held) (m : Moves) → HeldKnown h → AreKnown (rolled h m)
roll_known h m k = join (last_changed (λ y. one (moved (pos 0) m.head y)) (left_before h (moves_zone h m))) (moved m.head m.tail h.item ∷ first_changed (λ z. one (moved m.tail (pos 0) z)) (left_behind h (moves_zone h m)))
    (tails_known m.head (left_before h (moves_zone h m)) (strip_known h.before _ _ k.before))
    (moved_known m.head m.tail h.item k.item k.thing, heads_known m.tail (left_behind h (moves_zone h m)) (strip_known h.behind _ _ k.behind))

beside_known : (f by : ℤ) (h : Held) → HeldKnown h → AreKnown (beside h (λ y. slid h (slide_by f y by)))
beside_known f by h k = of (last_item h.before) refl
  where
    of : (o : Option (ItemOf Listed)) → last_item h.before ≡ o → AreKnown (beside h (λ y. slid h (slide_by f y by)))
    of None g = rw (g, beside) tt
    of (Some y) g = rw (g, beside) (slide_known h (slide_by f y by) k)

pub edited_known : (f : ℤ) (e : Edit) (l : List (ItemOf Listed)) → HaveLengths l → ItemHasLength e → Suits e → AreKnown (edited f e l)
edited_known f (A.Overwrite place at x) l r i s = between_known l _ _ _ _ (Old x ∷ []) r (i, tt)
edited_known f (A.Insert place at x) l r i s = between_known l _ _ _ _ (Old x ∷ []) r (i, tt)
edited_known f (A.Slice place at) l r i s = between_known l _ _ _ _ [] r tt
edited_known f (A.Fill place at mode x) l r i s = with_held l _ _ r (λ h k. between_known l _ _ _ _ (filling mode x (ticks h.item) ∷ []) r (filling_known mode x (ticks h.item) i s, tt))
edited_known f (A.Remove place at mode) l r i s = with_held l _ _ r (λ h k. between_known l _ _ _ _ (in_place mode h) r (place_known mode h))
edited_known f (A.Trim place at head tail) l r i s = with_held l _ _ r (λ h k. trim_known h (trim_by f h (in_ticks f head tail)) k)
edited_known f (A.Slip place at by) l r i s = with_held l _ _ r (λ h k. slip_known f (by *ℤ f) h k)
edited_known f (A.Slide place at by) l r i s = with_held l _ _ r (λ h k. beside_known f (by *ℤ f) h k)
edited_known f (A.Ripple place at head tail) l r i s = with_held l _ _ r (λ h k. ripple_known h (ripple_by f h.item (in_ticks f head tail)) k)
edited_known f (A.Roll place at head tail) l r i s = with_held l _ _ r (λ h k. roll_known h (roll_by f h (in_ticks f head tail)) k)

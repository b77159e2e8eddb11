-- No edit brings two transitions side by side.
use Rattle.std.proofs.Common.{◌≡◌, refl, subst, ℤ, pos, ◌+ℤ◌, ◌-ℤ◌, ◌*ℤ◌, ◌≤ℤ◌}
use Rattle.std.proofs.Common.{◌&&◌, ◌||◌}
use Rattle.std.specs.Int.{int_min, int_max}
use Rattle.std.proofs.Common.{true, false, Option, Some, None, List, [], ◌∷◌, ◌++◌, arith}
use Rattle.std.specs.Prelude.{int_lt}
use Rattle.std.proofs.lemmas.Int.{ints, clamps}
use Rattle.otio_model.specs.declared.compositions.ItemOf.{ItemOf}
use Rattle.otio_model.specs.declared.compositions.Listed.{Listed}
use Rattle.otio_model.specs.declared.edit_types.Edit.{Edit}
use Rattle.otio_model.specs.declared.edit_types.Edit.TheVariants as A
use Rattle.otio_model.specs.declared.edit_types.FillMode.{FillMode}
use Rattle.otio_model.specs.declared.edit_types.FillMode.TheVariants as M
use Rattle.otio_model.specs.declared.edit_types.RemoveMode.{RemoveMode}
use Rattle.otio_model.specs.declared.edit_types.RemoveMode.TheVariants as R
use Rattle.otio_model.specs.Trees.{is_transition}
use Rattle.coord.specs.Sights.{overlap_of}
use Rattle.edits.specs.Children.{Child, Old, ticks}
use Rattle.edits.specs.Cuts.{strip, olds, front, back, put_between}
use Rattle.edits.specs.Edges.{Held, Moves, end, first_changed, first_item, gap_of, grown}
use Rattle.edits.specs.Edges.{held_at, is_gap, is_gap_at, is_zero, item_zone, last_changed}
use Rattle.edits.specs.Edges.{last_item}
use Rattle.edits.specs.Edges.{left_before, left_behind, moved, moves_zone, one, ripple_by, rippled}
use Rattle.edits.specs.Edges.{roll_by, rolled, slid, slide_by, slide_zone, slip_by, slipped}
use Rattle.edits.specs.Edges.{slipped_item, start, trim_by, trimmed, trimmed_before, trimmed_behind}
use Rattle.edits.specs.Edits.{at_held, beside, edited, filling, in_place, in_ticks, with_effect}
use Rattle.edits.specs.Good.{Suits}
use Rattle.edits_law.proofs.Splice.{cases}
use Rattle.edits_law.proofs.Sorts.{point, thing, sort}
use Rattle.edits_law.proofs.Accepted.{found}
use Rattle.edits_law.proofs.AllLaws.{with_thing}
use Rattle.edits_law.proofs.Apart.{Apart, AreThings, Shut, back_apart, first_apart, flag, freed}
use Rattle.edits_law.proofs.Apart.{front_shut, join_item, join_shut, last_apart, no_false}
use Rattle.edits_law.proofs.Apart.{part_first, part_second, strip_apart, strip_led, strip_shut}
use Rattle.edits_law.proofs.Apart.{thing_flag, things_first, things_last}

between_apart : (l : List (ItemOf Listed)) (a b c d : ℤ) (n : List Child) → Apart false (olds l)
    → AreThings n → Apart false (put_between (strip l a b) c n d)
between_apart l a b c d n k i =
    let s = strip_apart false l a b k in
    join_shut false (front (strip l a b) c) (n ++ back (strip l a b) d)
    (front_shut false (strip l a b) c s (λ f. absurd (no_false f)))
    (things_first n (back (strip l a b) d) i (back_apart false (strip l a b) d s))

-- ---- what items become

moved_flag : (h t : ℤ) (x : ItemOf Listed) → is_transition x ≡ false → flag (moved h t x) ≡ false
moved_flag h t x e = cases (is_zero h && is_zero t) (λ s. rw s e) (λ s. rw s e)

slipped_flag : (d : ℤ) (x : ItemOf Listed) → is_transition x ≡ false
    → flag (slipped_item d x) ≡ false
slipped_flag d x e = cases (is_zero d || is_gap x) (λ s. rw s e) (λ s. rw s e)

grown_things : (n : ℤ) (x : ItemOf Listed) → is_transition x ≡ false → AreThings (grown n x)
grown_things n x e = cases (is_zero n) (λ s. rw s (e, tt))
    (λ s. cases (int_lt (pos 0) (ticks x +ℤ n)) (λ t. rw (s, t) (e, tt)) (λ t. rw (s, t) tt))

gap_things : (n : ℤ) → AreThings (gap_of n)
gap_things n = cases (int_lt (pos 0) n) (λ s. rw s (refl, tt)) (λ s. rw s tt)

filling_flag : (mode : FillMode) (x : ItemOf Listed) (room : ℤ) → overlap_of x ≡ None
    → flag (filling mode x room) ≡ false
filling_flag M.Source x room e = thing_flag x e
filling_flag M.Sequence x room e =
    let t = thing_flag x e in cases (int_lt room (ticks x)) (λ s. rw s t) (λ s. rw s t)
filling_flag M.Fit x room e = thing_flag (with_effect _ x) (with_thing _ x e)

place_things : (mode : RemoveMode) (h : Held) → AreThings (in_place mode h)
place_things R.Gap h = (refl, tt)
place_things R.Close h = tt

-- ---- the item that is held

record HeldApart (h : Held) : Type 0 where
  before : Apart false (olds h.before)
  item : is_transition h.item ≡ false
  long : start h ≤ℤ end h
  behind : Apart false (olds h.behind)

held_apart : (l : List (ItemOf Listed)) (w : ℤ) (h : Held) → Apart false (olds l)
    → held_at l w ≡ Some h → HeldApart h
held_apart l w h r e =
    let k = found l w h e in let from = k.from in let to = k.to in
    let s = subst (λ q. Apart false (olds q)) k.parts r in
    let t = part_second false h.before (h.item ∷ h.behind) s in
    record {
      before = part_first false h.before (h.item ∷ h.behind) s;
      item = elim (sort h.item) [ point o p q z ↦ absurd (omega (arith, ints)) | thing p q ↦ p ];
      long = omega (arith, ints);
      behind = freed (is_transition h.item) (olds h.behind) t.1;
    }

with_held : (l : List (ItemOf Listed)) (w : ℤ) (g : Held → List Child) → Apart false (olds l)
    → ((h : Held) → HeldApart h → Apart false (g h)) → Apart false (at_held l w g)
with_held l w g r k = by (held_at l w) refl
  where
    by : (o : Option Held) → held_at l w ≡ o → Apart false (at_held l w g)
    by None e = rw (e, at_held) r
    by (Some h) e = rw (e, at_held) (k h (held_apart l w h r e))

-- ---- edges

low_head : (s n : ℤ) → int_min s n ≤ℤ s
low_head s n = omega (arith, ints, clamps)

high_head : (s n : ℤ) → s ≤ℤ int_max s n
high_head s n = omega (arith, ints, clamps)

slide_apart : (h : Held) (d : ℤ) → HeldApart h → Apart false (slid h d)
slide_apart h d k =
    let low = low_head (start h) (start h +ℤ d) in
    let high = high_head (start h) (start h +ℤ d) in
    join_item false (last_changed (λ y. one (moved (pos 0) d y)) (left_before h (slide_zone h d)))
    (Old h.item) (olds (left_behind h (slide_zone h d)))
    (last_apart (λ y. one (moved (pos 0) d y)) false (left_before h (slide_zone h d))
    (λ x e. (moved_flag (pos 0) d x e, tt))
    (strip_shut false h.before _ _ k.before (λ f. absurd (no_false f)) low high))
    k.item (strip_apart false h.behind _ _ k.behind)

slip_apart : (f by : ℤ) (h : Held) → HeldApart h → Apart false (slipped f h by)
slip_apart f by h k =
    join_item false (olds h.before) (slipped_item (slip_by f h by) h.item) (olds h.behind) k.before
    (slipped_flag (slip_by f h by) h.item k.item) k.behind

ripple_apart : (h : Held) (m : Moves) → HeldApart h → Apart false (rippled h m)
ripple_apart h m k =
    join_item false (olds (left_before h (item_zone h))) (moved m.head m.tail h.item)
    (olds (left_behind h (item_zone h))) (strip_apart false h.before _ _ k.before)
    (moved_flag m.head m.tail h.item k.item) (strip_apart false h.behind _ _ k.behind)

-- the zone of moves reaches from the item's start, or before it, to its end, or after it
record IsWide (h : Held) (m : Moves) : Type 0 where
  low : (moves_zone h m).from ≤ℤ start h
  high : end h ≤ℤ (moves_zone h m).to
  start_in : start h ≤ℤ (moves_zone h m).to
  end_low : ((moves_zone h m).from -ℤ end h) ≤ℤ pos 0
  end_high : pos 0 ≤ℤ ((moves_zone h m).to -ℤ end h)

wide : (h : Held) (m : Moves) → start h ≤ℤ end h → IsWide h m
wide h m k =
    let a = low_head (start h) (start h +ℤ m.head) in
    let b = high_head (end h) (end h +ℤ m.tail) in
    record {
      low = a;
      high = b;
      start_in = omega (arith, ints, b, k);
      end_low = omega (arith, ints, a, k);
      end_high = omega (arith, ints, b);
    }

before_shut : (h : Held) (m : Moves) → HeldApart h
    → Shut false (olds (left_before h (moves_zone h m)))
before_shut h m k =
    let w = wide h m k.long in
    strip_shut false h.before _ _ k.before (λ f. absurd (no_false f)) w.low w.start_in

behind_led : (h : Held) (m : Moves) → HeldApart h → Apart true
    (olds (left_behind h (moves_zone h m)))
behind_led h m k =
    let w = wide h m k.long in strip_led false h.behind _ _ k.behind w.end_low w.end_high

roll_apart : (h : Held) (m : Moves) → HeldApart h → Apart false (rolled h m)
roll_apart h m k =
    join_item false (last_changed (λ y. one (moved (pos 0) m.head y))
    (left_before h (moves_zone h m)))
    (moved m.head m.tail h.item)
    (first_changed (λ z. one (moved m.tail (pos 0) z)) (left_behind h (moves_zone h m)))
    (last_apart (λ y. one (moved (pos 0) m.head y)) false (left_before h (moves_zone h m))
    (λ x e. (moved_flag (pos 0) m.head x e, tt)) (before_shut h m k))
    (moved_flag m.head m.tail h.item k.item)
    (first_apart (λ z. one (moved m.tail (pos 0) z)) (left_behind h (moves_zone h m))
    (λ x e. (moved_flag m.tail (pos 0) x e, tt)) (behind_led h m k))

trim_before : (h : Held) (m : Moves) → HeldApart h → Apart false (trimmed_before h m)
trim_before h m k = cases (is_gap_at (last_item h.before))
    (λ s. rw s (last_apart (grown m.head) false (left_before h (moves_zone h m))
    (grown_things m.head) (before_shut h m k)))
    (λ s. rw s (things_last false (olds (left_before h (moves_zone h m))) (gap_of m.head)
    (strip_apart false h.before _ _ k.before) (gap_things m.head)))

trim_behind : (h : Held) (m : Moves) → HeldApart h → Apart false (trimmed_behind h m)
trim_behind h m k = cases (is_gap_at (first_item h.behind))
    (λ s. rw s (first_apart (grown (pos 0 -ℤ m.tail)) (left_behind h (moves_zone h m))
    (grown_things (pos 0 -ℤ m.tail)) (behind_led h m k)))
    (λ s. rw s (things_first (gap_of (pos 0 -ℤ m.tail)) (olds (left_behind h (moves_zone h m)))
    (gap_things (pos 0 -ℤ m.tail)) (strip_apart false h.behind _ _ k.behind)))

trim_apart : (h : Held) (m : Moves) → HeldApart h → Apart false (trimmed h m)
trim_apart h m k =
    join_item false (trimmed_before h m) (moved m.head m.tail h.item) (trimmed_behind h m)
    (trim_before h m k) (moved_flag m.head m.tail h.item k.item) (trim_behind h m k)

beside_apart : (f by : ℤ) (h : Held) → HeldApart h
    → Apart false (beside h (λ y. slid h (slide_by f y by)))
beside_apart f by h k = of (last_item h.before) refl
  where
    of : (o : Option (ItemOf Listed)) → last_item h.before ≡ o
        → Apart false (beside h (λ y. slid h (slide_by f y by)))
    of None g = rw (g, beside) tt
    of (Some y) g = rw (g, beside) (slide_apart h (slide_by f y by) k)

-- ---- all ten

pub edited_apart : (f : ℤ) (e : Edit) (l : List (ItemOf Listed)) → Apart false (olds l) → Suits e
    → Apart false (edited f e l)
edited_apart f (A.Overwrite place at x) l r s =
    between_apart l _ _ _ _ (Old x ∷ []) r (thing_flag x s, tt)
edited_apart f (A.Insert place at x) l r s =
    between_apart l _ _ _ _ (Old x ∷ []) r (thing_flag x s, tt)
edited_apart f (A.Slice place at) l r s = between_apart l _ _ _ _ [] r tt
edited_apart f (A.Fill place at mode x) l r s = with_held l _ _ r
    (λ h k. between_apart l _ _ _ _ (filling mode x (ticks h.item) ∷ []) r
    (filling_flag mode x (ticks h.item) s, tt))
edited_apart f (A.Remove place at mode) l r s =
    with_held l _ _ r (λ h k. between_apart l _ _ _ _ (in_place mode h) r (place_things mode h))
edited_apart f (A.Trim place at head tail) l r s =
    with_held l _ _ r (λ h k. trim_apart h (trim_by f h (in_ticks f head tail)) k)
edited_apart f (A.Slip place at by) l r s = with_held l _ _ r (λ h k. slip_apart f (by *ℤ f) h k)
edited_apart f (A.Slide place at by) l r s =
    with_held l _ _ r (λ h k. beside_apart f (by *ℤ f) h k)
edited_apart f (A.Ripple place at head tail) l r s =
    with_held l _ _ r (λ h k. ripple_apart h (ripple_by f h.item (in_ticks f head tail)) k)
edited_apart f (A.Roll place at head tail) l r s =
    with_held l _ _ r (λ h k. roll_apart h (roll_by f h (in_ticks f head tail)) k)

-- The items of an edited list are writable.
use Rattle.std.proofs.Common.{◌≡◌, refl, subst, ℤ, pos, ◌+ℤ◌, ◌-ℤ◌, ◌*ℤ◌}
use Rattle.std.proofs.Common.{◌&&◌, ◌||◌, false, Option, Some, None, List, [], ◌∷◌, ◌++◌}
use Rattle.std.specs.Prelude.{int_lt, is_some}
use Rattle.std.proofs.lemmas.Int.{by_lt_z}
use Rattle.otio_model.specs.declared.compositions.ItemOf.{ItemOf}
use Rattle.otio_model.specs.declared.compositions.Listed.{Listed}
use Rattle.otio_model.specs.declared.edit_types.Edit.{Edit}
use Rattle.otio_model.specs.declared.edit_types.Edit.TheVariants as A
use Rattle.otio_model.specs.declared.edit_types.FillMode.{FillMode}
use Rattle.otio_model.specs.declared.edit_types.FillMode.TheVariants as M
use Rattle.otio_model.specs.declared.edit_types.RemoveMode.{RemoveMode}
use Rattle.otio_model.specs.declared.edit_types.RemoveMode.TheVariants as R
use Rattle.otio_model.specs.Lengths.{trimmed_start}
use Rattle.otio_model.specs.Trees.{is_transition}
use Rattle.coord.specs.Speeds.{media_at, speed_of}
use Rattle.edits.specs.Children.{Child, Old, ticks}
use Rattle.edits.specs.Cuts.{strip, olds, front, put_between}
use Rattle.edits.specs.After.{at_of}
use Rattle.edits.specs.Edges.{Held, Moves, first_changed, first_item, gap_of, grown, held_at}
use Rattle.edits.specs.Edges.{is_gap, is_gap_at, is_zero, item_zone, last_changed, last_item}
use Rattle.edits.specs.Edges.{left_before, left_behind, moved, moves_zone, one, ripple_by, rippled}
use Rattle.edits.specs.Edges.{roll_by, rolled, slid, slide_by, slide_zone, slip_by, slipped}
use Rattle.edits.specs.Edges.{slipped_item, trim_by, trimmed, trimmed_before, trimmed_behind}
use Rattle.edits.specs.Edits.{at_held, beside, edited, filling, in_place, in_ticks}
use Rattle.edits.specs.Refusals.{has_wrong_fit, is_wrong_speed}
use Rattle.edits_law.proofs.Splice.{cases}
use Rattle.edits_law.proofs.Accepted.{found}
use Rattle.edits_law.proofs.Parted.{lt_yes, le_yes}
use Rattle.edits_law.proofs.Apart.{le_not, lt_not}
use Rattle.object_law.specs.Writable.{IsItem}
use Rattle.writable_law.proofs.MadeChildren.{all_olds, back_is, join, stripped}
use Rattle.script_law.specs.Items.{HasWritableItem}
use Rattle.writable_law.proofs.WritableChildren.{AreWritable, AreWritableChildren, IsWritableChild}
use Rattle.writable_law.proofs.WritableChildren.{fit_writable, gap_writable, old_writable}
use Rattle.writable_law.proofs.WritableChildren.{ranged_writable}

front_is : (l : List (ItemOf Listed)) (t : ℤ) → AreWritable l → AreWritableChildren (front l t)
front_is [] t r = cases (int_lt (pos 0) t) (λ s. rw s (gap_writable t, tt)) (λ s. rw s tt)
front_is (x ∷ l) t r = by_lt_z (pos 0) t
    (λ h. let e = lt_yes (pos 0) t h in by_lt_z t (ticks x)
    (λ k. let f = le_not (ticks x) t k in
    rw (e, f) (ranged_writable x (trimmed_start x) t r.0, tt))
    (λ k. let f = le_yes (ticks x) t k in
    rw (e, f) (old_writable x r.0, front_is l (t -ℤ ticks x) r.1)))
    (λ h. let e = lt_not (pos 0) t h in rw e tt)

between : (l : List (ItemOf Listed)) (a b c d : ℤ) (n : List Child) → AreWritable l
    → AreWritableChildren n → AreWritableChildren (put_between (strip l a b) c n d)
between l a b c d n r k =
    let s = stripped l a b r in
    join (front (strip l a b) c) _ (front_is (strip l a b) c s)
    (join n _ k (back_is (strip l a b) d s))

-- ---- edges

moved_is : (h t : ℤ) (x : ItemOf Listed) → IsItem x → IsWritableChild (moved h t x)
moved_is h t x r = cases (is_zero h && is_zero t) (λ s. rw s (old_writable x r))
    (λ s. rw s (ranged_writable x (media_at (trimmed_start x) (speed_of x) h)
    ((ticks x -ℤ h) +ℤ t) r))

slipped_is : (d : ℤ) (x : ItemOf Listed) → IsItem x → IsWritableChild (slipped_item d x)
slipped_is d x r = cases (is_zero d || is_gap x) (λ s. rw s (old_writable x r))
    (λ s. rw s (ranged_writable x (trimmed_start x +ℤ d) (ticks x) r))

grown_is : (n : ℤ) (x : ItemOf Listed) → IsItem x → AreWritableChildren (grown n x)
grown_is n x r = cases (is_zero n) (λ s. rw s (old_writable x r, tt))
    (λ s. cases (int_lt (pos 0) (ticks x +ℤ n))
    (λ t. rw (s, t) (ranged_writable x (trimmed_start x) (ticks x +ℤ n) r, tt))
    (λ t. rw (s, t) tt))

gaps_are : (n : ℤ) → AreWritableChildren (gap_of n)
gaps_are n = cases (int_lt (pos 0) n) (λ s. rw s (gap_writable n, tt)) (λ s. rw s tt)

-- what an item becomes
abbrev GivesWritable : (ItemOf Listed → List Child) → Type 0
GivesWritable f = (x : ItemOf Listed) → IsItem x → AreWritableChildren (f x)

first_is : (f : ItemOf Listed → List Child) (l : List (ItemOf Listed)) → GivesWritable f
    → AreWritable l → AreWritableChildren (first_changed f l)
first_is f [] g r = tt
first_is f (x ∷ l) g r = cases (is_transition x)
    (λ t. rw t (old_writable x r.0, first_is f l g r.1))
    (λ t. rw t (join (f x) (olds l) (g x r.0) (all_olds l r.1)))

last_is : (f : ItemOf Listed → List Child) (l : List (ItemOf Listed)) → GivesWritable f
    → AreWritable l → AreWritableChildren (last_changed f l)
last_is f [] g r = tt
last_is f (x ∷ l) g r = cases (is_some (last_item l) || is_transition x)
    (λ s. rw s (old_writable x r.0, last_is f l g r.1))
    (λ s. rw s (join (f x) (olds l) (g x r.0) (all_olds l r.1)))

first_part : (l m : List (ItemOf Listed)) → AreWritable (l ++ m) → AreWritable l
first_part [] m r = tt
first_part (x ∷ l) m r = (r.0, first_part l m r.1)

second_part : (l m : List (ItemOf Listed)) → AreWritable (l ++ m) → AreWritable m
second_part [] m r = r
second_part (x ∷ l) m r = second_part l m r.1

record HeldWritable (h : Held) : Type 0 where
  before : AreWritable h.before
  item : IsItem h.item
  behind : AreWritable h.behind

held_is : (l : List (ItemOf Listed)) (w : ℤ) (h : Held) → AreWritable l → held_at l w ≡ Some h
    → HeldWritable h
held_is l w h r e =
    let k = found l w h e in
    let s = subst AreWritable k.parts r in
    let t = second_part h.before (h.item ∷ h.behind) s in
    record { before = first_part h.before _ s; item = t.0; behind = t.1 }

with_held : (l : List (ItemOf Listed)) (w : ℤ) (g : Held → List Child) → AreWritable l
    → ((h : Held) → held_at l w ≡ Some h → HeldWritable h → AreWritableChildren (g h))
    → AreWritableChildren (at_held l w g)
with_held l w g r k = by (held_at l w) refl
  where
    by : (o : Option Held) → held_at l w ≡ o → AreWritableChildren (at_held l w g)
    by None e = rw (e, at_held) (all_olds l r)
    by (Some h) e = rw (e, at_held) (k h e (held_is l w h r e))

filling_is : (mode : FillMode) (x : ItemOf Listed) (h : Held) (o : Option Held) → o ≡ Some h
    → IsItem x → has_wrong_fit mode x o ≡ false → IsWritableChild (filling mode x (ticks h.item))
filling_is M.Source x h o e i w = old_writable x i
filling_is M.Sequence x h o e i w = cases (int_lt (ticks h.item) (ticks x))
    (λ s. rw s (ranged_writable x (trimmed_start x) (ticks h.item) i))
    (λ s. rw s (old_writable x i))
filling_is M.Fit x h o e i w =
    fit_writable x (ticks h.item) (trimmed_start x) (ticks h.item) i
    (subst (λ q. has_wrong_fit M.Fit x q ≡ false) e w)

place_is : (mode : RemoveMode) (h : Held) → AreWritableChildren (in_place mode h)
place_is R.Gap h = (gap_writable (ticks h.item), tt)
place_is R.Close h = tt

before_is : (h : Held) (m : Moves) → HeldWritable h → AreWritableChildren (trimmed_before h m)
before_is h m r = cases (is_gap_at (last_item h.before))
    (λ s. rw s (last_is (grown m.head) _ (grown_is m.head) (stripped h.before _ _ r.before)))
    (λ s. rw s (join (olds (left_before h (moves_zone h m))) _
    (all_olds _ (stripped h.before _ _ r.before)) (gaps_are m.head)))

behind_is : (h : Held) (m : Moves) → HeldWritable h → AreWritableChildren (trimmed_behind h m)
behind_is h m r = cases (is_gap_at (first_item h.behind))
    (λ s. rw s (first_is (grown (pos 0 -ℤ m.tail)) _ (grown_is (pos 0 -ℤ m.tail))
    (stripped h.behind _ _ r.behind)))
    (λ s. rw s (join (gap_of (pos 0 -ℤ m.tail)) _ (gaps_are (pos 0 -ℤ m.tail))
    (all_olds (left_behind h (moves_zone h m)) (stripped h.behind _ _ r.behind))))

trim_is : (h : Held) (m : Moves) → HeldWritable h → AreWritableChildren (trimmed h m)
trim_is h m k =
    join (trimmed_before h m) (moved m.head m.tail h.item ∷ trimmed_behind h m) (before_is h m k)
    (moved_is m.head m.tail h.item k.item, behind_is h m k)

slip_is : (f by : ℤ) (h : Held) → HeldWritable h → AreWritableChildren (slipped f h by)
slip_is f by h k =
    join (olds h.before) (slipped_item (slip_by f h by) h.item ∷ olds h.behind)
    (all_olds h.before k.before)
    (slipped_is (slip_by f h by) h.item k.item, all_olds h.behind k.behind)

tails_are : (t : ℤ) (l : List (ItemOf Listed)) → AreWritable l
    → AreWritableChildren (last_changed (λ y. one (moved (pos 0) t y)) l)
tails_are t l r = last_is (λ y. one (moved (pos 0) t y)) l (λ x p. (moved_is (pos 0) t x p, tt)) r

heads_are : (t : ℤ) (l : List (ItemOf Listed)) → AreWritable l
    → AreWritableChildren (first_changed (λ z. one (moved t (pos 0) z)) l)
heads_are t l r = first_is (λ z. one (moved t (pos 0) z)) l (λ x p. (moved_is t (pos 0) x p, tt)) r

slide_is : (h : Held) (d : ℤ) → HeldWritable h → AreWritableChildren (slid h d)
slide_is h d k =
    join (last_changed (λ y. one (moved (pos 0) d y)) (left_before h (slide_zone h d)))
    (Old h.item ∷ olds (left_behind h (slide_zone h d)))
    (tails_are d (left_before h (slide_zone h d)) (stripped h.before _ _ k.before)) (
      old_writable h.item k.item,
      all_olds (left_behind h (slide_zone h d)) (stripped h.behind _ _ k.behind),
    )

ripple_is : (h : Held) (m : Moves) → HeldWritable h → AreWritableChildren (rippled h m)
ripple_is h m k =
    join (olds (left_before h (item_zone h)))
    (moved m.head m.tail h.item ∷ olds (left_behind h (item_zone h)))
    (all_olds (left_before h (item_zone h)) (stripped h.before _ _ k.before)) (
      moved_is m.head m.tail h.item k.item,
      all_olds (left_behind h (item_zone h)) (stripped h.behind _ _ k.behind),
    )

roll_is : (h : Held) (m : Moves) → HeldWritable h → AreWritableChildren (rolled h m)
roll_is h m k =
    join (last_changed (λ y. one (moved (pos 0) m.head y)) (left_before h (moves_zone h m)))
    (moved m.head m.tail h.item
    ∷ first_changed (λ z. one (moved m.tail (pos 0) z)) (left_behind h (moves_zone h m)))
    (tails_are m.head (left_before h (moves_zone h m)) (stripped h.before _ _ k.before)) (
      moved_is m.head m.tail h.item k.item,
      heads_are m.tail (left_behind h (moves_zone h m)) (stripped h.behind _ _ k.behind),
    )

beside_is : (f by : ℤ) (h : Held) → HeldWritable h
    → AreWritableChildren (beside h (λ y. slid h (slide_by f y by)))
beside_is f by h k = of (last_item h.before) refl
  where
    of : (o : Option (ItemOf Listed)) → last_item h.before ≡ o
        → AreWritableChildren (beside h (λ y. slid h (slide_by f y by)))
    of None g = rw (g, beside) tt
    of (Some y) g = rw (g, beside) (slide_is h (slide_by f y by) k)

-- ---- all ten

pub edited_are : (f : ℤ) (e : Edit) (l : List (ItemOf Listed)) → AreWritable l → HasWritableItem e
    → is_wrong_speed e (held_at l (at_of e *ℤ f)) ≡ false → AreWritableChildren (edited f e l)
edited_are f (A.Overwrite place at x) l r i w =
    between l _ _ _ _ (Old x ∷ []) r (old_writable x i, tt)
edited_are f (A.Insert place at x) l r i w =
    between l _ _ _ _ (Old x ∷ []) r (old_writable x i, tt)
edited_are f (A.Slice place at) l r i w = between l _ _ _ _ [] r tt
edited_are f (A.Fill place at mode x) l r i w = with_held l _ _ r
    (λ h e k. between l _ _ _ _ (filling mode x (ticks h.item) ∷ []) r
    (filling_is mode x h (held_at l (at *ℤ f)) e i w, tt))
edited_are f (A.Remove place at mode) l r i w =
    with_held l _ _ r (λ h e k. between l _ _ _ _ (in_place mode h) r (place_is mode h))
edited_are f (A.Trim place at head tail) l r i w =
    with_held l _ _ r (λ h e k. trim_is h (trim_by f h (in_ticks f head tail)) k)
edited_are f (A.Slip place at by) l r i w =
    with_held l _ _ r (λ h e k. slip_is f (by *ℤ f) h k)
edited_are f (A.Slide place at by) l r i w =
    with_held l _ _ r (λ h e k. beside_is f (by *ℤ f) h k)
edited_are f (A.Ripple place at head tail) l r i w =
    with_held l _ _ r (λ h e k. ripple_is h (ripple_by f h.item (in_ticks f head tail)) k)
edited_are f (A.Roll place at head tail) l r i w =
    with_held l _ _ r (λ h e k. roll_is h (roll_by f h (in_ticks f head tail)) k)

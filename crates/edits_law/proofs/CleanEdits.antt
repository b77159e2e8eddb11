-- The items of an edited list have no fault but that they may be too long.
use Rattle.std.proofs.Common.{◌≡◌, refl, subst, ℤ, pos, ◌+ℤ◌, ◌-ℤ◌, ◌*ℤ◌, ◌<ℤ◌}
use Rattle.std.proofs.Common.{◌&&◌, ◌||◌, true, false, Option, Some, None, List, [], ◌∷◌, ◌++◌}
use Rattle.std.proofs.Common.{arith}
use Rattle.std.specs.Prelude.{int_lt, is_some}
use Rattle.std.proofs.lemmas.Int.{ints, by_lt_z}
use Rattle.otio_model.specs.declared.compositions.ItemOf.{ItemOf}
use Rattle.otio_model.specs.declared.compositions.ItemOf.TheVariants.{Clip, Gap, Transition, Stack}
use Rattle.otio_model.specs.declared.compositions.ItemOf.TheVariants.{Track}
use Rattle.otio_model.specs.declared.compositions.Listed.{Listed}
use Rattle.otio_model.specs.declared.edit_types.Edit.{Edit}
use Rattle.otio_model.specs.declared.edit_types.Edit.TheVariants as A
use Rattle.otio_model.specs.declared.edit_types.FillMode.{FillMode}
use Rattle.otio_model.specs.declared.edit_types.FillMode.TheVariants as M
use Rattle.otio_model.specs.declared.edit_types.RemoveMode.{RemoveMode}
use Rattle.otio_model.specs.declared.edit_types.RemoveMode.TheVariants as R
use Rattle.otio_model.specs.Lengths.{trimmed_start}
use Rattle.otio_model.specs.Trees.{is_transition}
use Rattle.coord.specs.Sights.{overlap_of}
use Rattle.coord.specs.Speeds.{media_at, speed_of}
use Rattle.edits.specs.Splices.{is_stripped}
use Rattle.edits.specs.Children.{Child, Old, ticks}
use Rattle.edits.specs.Cuts.{strip, olds, front, back, put_between}
use Rattle.edits.specs.After.{at_of}
use Rattle.edits.specs.Edges.{Held, Moves, first_changed, first_item, gap_of, grown, held_at}
use Rattle.edits.specs.Edges.{is_gap}
use Rattle.edits.specs.Edges.{is_gap_at, is_zero, item_zone, last_changed, last_item, left_before}
use Rattle.edits.specs.Edges.{left_behind, moved, moves_zone, one, ripple_by, rippled, roll_by}
use Rattle.edits.specs.Edges.{rolled}
use Rattle.edits.specs.Edges.{slid, slide_by, slide_zone, slip_by, slipped, slipped_item, trim_by}
use Rattle.edits.specs.Edges.{trimmed, trimmed_before, trimmed_behind}
use Rattle.edits.specs.Edits.{at_held, beside, edited, filling, in_place, in_ticks}
use Rattle.edits.specs.Refusals.{has_wrong_fit, is_wrong_speed}
use Rattle.edits_law.proofs.Splice.{cases}
use Rattle.edits_law.proofs.Pieces.{no_transition}
use Rattle.edits_law.proofs.Sorts.{point, thing, sort}
use Rattle.edits_law.proofs.Accepted.{found}
use Rattle.edits_law.proofs.Parted.{lt_yes, le_yes}
use Rattle.edits_law.specs.Editable.{IsEditItem, HasEditItem, is_clip_or_gap}
use Rattle.edits_law.proofs.Apart.{le_not, lt_not, neither, thing_flag}
use Rattle.edits_law.proofs.Clean.{AreClean, AreCleanChildren, IsCleanAll, IsCleanChild}
use Rattle.edits_law.proofs.Clean.{fit_clean}
use Rattle.edits_law.proofs.Clean.{gap_clean, old_clean, put_clean, ranged_clean}

join : (l m : List Child) → AreCleanChildren l → AreCleanChildren m → AreCleanChildren (l ++ m)
join [] m a b = b
join (c ∷ l) m a b = (a.0, join l m a.1 b)

all_olds : (l : List (ItemOf Listed)) → AreClean l → AreCleanChildren (olds l)
all_olds [] r = tt
all_olds (x ∷ l) r = (old_clean x r.0, all_olds l r.1)

strip_clean : (l : List (ItemOf Listed)) (a b : ℤ) → AreClean l → AreClean (strip l a b)
strip_clean [] a b r = tt
strip_clean (x ∷ l) a b r = cases (is_stripped a b (overlap_of x))
    (λ s. rw s (strip_clean l a b r.1))
    (λ s. rw s (r.0, strip_clean l (a -ℤ ticks x) (b -ℤ ticks x) r.1))

cut_flag : (x : ItemOf Listed) (t : ℤ) → pos 0 <ℤ t → t <ℤ ticks x → is_transition x ≡ false
cut_flag x t h k = thing_flag x (no_transition x t h k)

front_clean : (l : List (ItemOf Listed)) (t : ℤ) → AreClean l → AreCleanChildren (front l t)
front_clean [] t r = cases (int_lt (pos 0) t) (λ s. rw s (gap_clean t, tt)) (λ s. rw s tt)
front_clean (x ∷ l) t r = by_lt_z (pos 0) t
    (λ h. let e = lt_yes (pos 0) t h in by_lt_z t (ticks x)
    (λ k. let f = le_not (ticks x) t k in
    rw (e, f) (ranged_clean x (trimmed_start x) t r.0 (cut_flag x t h k), tt))
    (λ k. let f = le_yes (ticks x) t k in
    rw (e, f) (old_clean x r.0, front_clean l (t -ℤ ticks x) r.1)))
    (λ h. let e = lt_not (pos 0) t h in rw e tt)

back_clean : (l : List (ItemOf Listed)) (t : ℤ) → AreClean l → AreCleanChildren (back l t)
back_clean [] t r = tt
back_clean (x ∷ l) t r = by_lt_z (pos 0) t
    (λ h. let e = lt_yes (pos 0) t h in by_lt_z t (ticks x)
    (λ k. let f = le_not (ticks x) t k in
    rw (e, f) (
      ranged_clean x (media_at (trimmed_start x) (speed_of x) t) (ticks x -ℤ t) r.0
          (cut_flag x t h k),
      all_olds l r.1,
    ))
    (λ k. let f = le_yes (ticks x) t k in rw (e, f) (back_clean l (t -ℤ ticks x) r.1)))
    (λ h. let e = lt_not (pos 0) t h in rw e (old_clean x r.0, all_olds l r.1))

between_clean : (l : List (ItemOf Listed)) (a b c d : ℤ) (n : List Child) → AreClean l
    → AreCleanChildren n → AreCleanChildren (put_between (strip l a b) c n d)
between_clean l a b c d n r k =
    let s = strip_clean l a b r in
    join (front (strip l a b) c) _ (front_clean (strip l a b) c s)
    (join n _ k (back_clean (strip l a b) d s))

-- ---- edges

moved_clean : (h t : ℤ) (x : ItemOf Listed) → IsCleanAll x → is_transition x ≡ false
    → IsCleanChild (moved h t x)
moved_clean h t x r e = cases (is_zero h && is_zero t) (λ s. rw s (old_clean x r))
    (λ s. rw s (ranged_clean x (media_at (trimmed_start x) (speed_of x) h) ((ticks x -ℤ h) +ℤ t) r
    e))

slipped_clean : (d : ℤ) (x : ItemOf Listed) → IsCleanAll x → is_transition x ≡ false
    → IsCleanChild (slipped_item d x)
slipped_clean d x r e = cases (is_zero d || is_gap x) (λ s. rw s (old_clean x r))
    (λ s. rw s (ranged_clean x (trimmed_start x +ℤ d) (ticks x) r e))

grown_clean : (n : ℤ) (x : ItemOf Listed) → IsCleanAll x → is_transition x ≡ false
    → AreCleanChildren (grown n x)
grown_clean n x r e = cases (is_zero n) (λ s. rw s (old_clean x r, tt))
    (λ s. cases (int_lt (pos 0) (ticks x +ℤ n))
    (λ t. rw (s, t) (ranged_clean x (trimmed_start x) (ticks x +ℤ n) r e, tt))
    (λ t. rw (s, t) tt))

gaps_clean : (n : ℤ) → AreCleanChildren (gap_of n)
gaps_clean n = cases (int_lt (pos 0) n) (λ s. rw s (gap_clean n, tt)) (λ s. rw s tt)

-- what an item becomes
abbrev GivesClean : (ItemOf Listed → List Child) → Type 0
GivesClean f = (x : ItemOf Listed) → IsCleanAll x → is_transition x ≡ false → AreCleanChildren (f x)

first_clean : (f : ItemOf Listed → List Child) (l : List (ItemOf Listed)) → GivesClean f
    → AreClean l
    → AreCleanChildren (first_changed f l)
first_clean f [] g r = tt
first_clean f (x ∷ l) g r = cases (is_transition x)
    (λ t. rw t (old_clean x r.0, first_clean f l g r.1))
    (λ t. rw t (join (f x) (olds l) (g x r.0 t) (all_olds l r.1)))

last_clean : (f : ItemOf Listed → List Child) (l : List (ItemOf Listed)) → GivesClean f → AreClean l
    → AreCleanChildren (last_changed f l)
last_clean f [] g r = tt
last_clean f (x ∷ l) g r = cases (is_some (last_item l) || is_transition x)
    (λ s. rw s (old_clean x r.0, last_clean f l g r.1))
    (λ s. let n = neither (is_some (last_item l)) (is_transition x) s in
    rw s (join (f x) (olds l) (g x r.0 n.1) (all_olds l r.1)))

clean_first : (l m : List (ItemOf Listed)) → AreClean (l ++ m) → AreClean l
clean_first [] m r = tt
clean_first (x ∷ l) m r = (r.0, clean_first l m r.1)

clean_second : (l m : List (ItemOf Listed)) → AreClean (l ++ m) → AreClean m
clean_second [] m r = r
clean_second (x ∷ l) m r = clean_second l m r.1

record HeldClean (h : Held) : Type 0 where
  before : AreClean h.before
  item : IsCleanAll h.item
  thing : is_transition h.item ≡ false
  behind : AreClean h.behind

held_clean : (l : List (ItemOf Listed)) (w : ℤ) (h : Held) → AreClean l → held_at l w ≡ Some h
    → HeldClean h
held_clean l w h r e =
    let k = found l w h e in let from = k.from in let to = k.to in
    let s = subst AreClean k.parts r in
    let t = clean_second h.before (h.item ∷ h.behind) s in
    record {
      before = clean_first h.before _ s;
      item = t.0;
      thing = elim (sort h.item) [ point o p q z ↦ absurd (omega (arith, ints)) | thing p q ↦ p ];
      behind = t.1;
    }

with_held : (l : List (ItemOf Listed)) (w : ℤ) (g : Held → List Child) → AreClean l
    → ((h : Held) → held_at l w ≡ Some h → HeldClean h → AreCleanChildren (g h))
    → AreCleanChildren (at_held l w g)
with_held l w g r k = by (held_at l w) refl
  where
    by : (o : Option Held) → held_at l w ≡ o → AreCleanChildren (at_held l w g)
    by None e = rw (e, at_held) (all_olds l r)
    by (Some h) e = rw (e, at_held) (k h e (held_clean l w h r e))

item_flag : (x : ItemOf Listed) → is_clip_or_gap x ≡ true → is_transition x ≡ false
item_flag (Clip c) e = refl
item_flag (Gap c) e = refl
item_flag (Transition c) e = absurd (cc e)
item_flag (Stack c) e = refl
item_flag (Track c) e = refl

filling_clean : (mode : FillMode) (x : ItemOf Listed) (h : Held) (o : Option Held) → o ≡ Some h
    → IsEditItem x → has_wrong_fit mode x o ≡ false → IsCleanChild (filling mode x (ticks h.item))
filling_clean M.Source x h o e i w = old_clean x (put_clean x i)
filling_clean M.Sequence x h o e i w =
    let k = put_clean x i in
    let t = item_flag x i.kind in
    cases (int_lt (ticks h.item) (ticks x))
    (λ s. rw s (ranged_clean x (trimmed_start x) (ticks h.item) k t))
    (λ s. rw s (old_clean x k))
filling_clean M.Fit x h o e i w =
    fit_clean x (ticks h.item) (trimmed_start x) (ticks h.item) i
    (subst (λ q. has_wrong_fit M.Fit x q ≡ false) e w)

place_clean : (mode : RemoveMode) (h : Held) → AreCleanChildren (in_place mode h)
place_clean R.Gap h = (gap_clean (ticks h.item), tt)
place_clean R.Close h = tt

before_clean : (h : Held) (m : Moves) → HeldClean h → AreCleanChildren (trimmed_before h m)
before_clean h m r = cases (is_gap_at (last_item h.before))
    (λ s. rw s (last_clean (grown m.head) _ (grown_clean m.head)
    (strip_clean h.before _ _ r.before)))
    (λ s. rw s (join (olds (left_before h (moves_zone h m))) _
    (all_olds _ (strip_clean h.before _ _ r.before)) (gaps_clean m.head)))

behind_clean : (h : Held) (m : Moves) → HeldClean h → AreCleanChildren (trimmed_behind h m)
behind_clean h m r = cases (is_gap_at (first_item h.behind))
    (λ s. rw s (first_clean (grown (pos 0 -ℤ m.tail)) _ (grown_clean (pos 0 -ℤ m.tail))
    (strip_clean h.behind _ _ r.behind)))
    (λ s. rw s (join (gap_of (pos 0 -ℤ m.tail)) _ (gaps_clean (pos 0 -ℤ m.tail))
    (all_olds (left_behind h (moves_zone h m)) (strip_clean h.behind _ _ r.behind))))

trim_clean : (h : Held) (m : Moves) → HeldClean h → AreCleanChildren (trimmed h m)
trim_clean h m k =
    join (trimmed_before h m) (moved m.head m.tail h.item ∷ trimmed_behind h m) (before_clean h m k)
    (moved_clean m.head m.tail h.item k.item k.thing, behind_clean h m k)

slip_clean : (f by : ℤ) (h : Held) → HeldClean h → AreCleanChildren (slipped f h by)
slip_clean f by h k =
    join (olds h.before) (slipped_item (slip_by f h by) h.item ∷ olds h.behind)
    (all_olds h.before k.before)
    (slipped_clean (slip_by f h by) h.item k.item k.thing, all_olds h.behind k.behind)

tails_clean : (t : ℤ) (l : List (ItemOf Listed)) → AreClean l
    → AreCleanChildren (last_changed (λ y. one (moved (pos 0) t y)) l)
tails_clean t l r =
    last_clean (λ y. one (moved (pos 0) t y)) l (λ x p q. (moved_clean (pos 0) t x p q, tt)) r

heads_clean : (t : ℤ) (l : List (ItemOf Listed)) → AreClean l
    → AreCleanChildren (first_changed (λ z. one (moved t (pos 0) z)) l)
heads_clean t l r =
    first_clean (λ z. one (moved t (pos 0) z)) l (λ x p q. (moved_clean t (pos 0) x p q, tt)) r

slide_clean : (h : Held) (d : ℤ) → HeldClean h → AreCleanChildren (slid h d)
slide_clean h d k =
    join (last_changed (λ y. one (moved (pos 0) d y)) (left_before h (slide_zone h d)))
    (Old h.item ∷ olds (left_behind h (slide_zone h d)))
    (tails_clean d (left_before h (slide_zone h d)) (strip_clean h.before _ _ k.before)) (
      old_clean h.item k.item,
      all_olds (left_behind h (slide_zone h d)) (strip_clean h.behind _ _ k.behind),
    )

ripple_clean : (h : Held) (m : Moves) → HeldClean h → AreCleanChildren (rippled h m)
ripple_clean h m k =
    join (olds (left_before h (item_zone h)))
    (moved m.head m.tail h.item ∷ olds (left_behind h (item_zone h)))
    (all_olds (left_before h (item_zone h)) (strip_clean h.before _ _ k.before)) (
      moved_clean m.head m.tail h.item k.item k.thing,
      all_olds (left_behind h (item_zone h)) (strip_clean h.behind _ _ k.behind),
    )

roll_clean : (h : Held) (m : Moves) → HeldClean h → AreCleanChildren (rolled h m)
roll_clean h m k =
    join (last_changed (λ y. one (moved (pos 0) m.head y)) (left_before h (moves_zone h m)))
    (moved m.head m.tail h.item
    ∷ first_changed (λ z. one (moved m.tail (pos 0) z)) (left_behind h (moves_zone h m)))
    (tails_clean m.head (left_before h (moves_zone h m)) (strip_clean h.before _ _ k.before)) (
      moved_clean m.head m.tail h.item k.item k.thing,
      heads_clean m.tail (left_behind h (moves_zone h m)) (strip_clean h.behind _ _ k.behind),
    )

beside_clean : (f by : ℤ) (h : Held) → HeldClean h
    → AreCleanChildren (beside h (λ y. slid h (slide_by f y by)))
beside_clean f by h k = of (last_item h.before) refl
  where
    of : (o : Option (ItemOf Listed)) → last_item h.before ≡ o
        → AreCleanChildren (beside h (λ y. slid h (slide_by f y by)))
    of None g = rw (g, beside) tt
    of (Some y) g = rw (g, beside) (slide_clean h (slide_by f y by) k)

-- ---- all ten

pub edited_clean : (f : ℤ) (e : Edit) (l : List (ItemOf Listed)) → AreClean l → HasEditItem e
    → is_wrong_speed e (held_at l (at_of e *ℤ f)) ≡ false → AreCleanChildren (edited f e l)
edited_clean f (A.Overwrite place at x) l r i w =
    between_clean l _ _ _ _ (Old x ∷ []) r (old_clean x (put_clean x i), tt)
edited_clean f (A.Insert place at x) l r i w =
    between_clean l _ _ _ _ (Old x ∷ []) r (old_clean x (put_clean x i), tt)
edited_clean f (A.Slice place at) l r i w = between_clean l _ _ _ _ [] r tt
edited_clean f (A.Fill place at mode x) l r i w = with_held l _ _ r
    (λ h e k. between_clean l _ _ _ _ (filling mode x (ticks h.item) ∷ []) r
    (filling_clean mode x h (held_at l (at *ℤ f)) e i w, tt))
edited_clean f (A.Remove place at mode) l r i w =
    with_held l _ _ r (λ h e k. between_clean l _ _ _ _ (in_place mode h) r (place_clean mode h))
edited_clean f (A.Trim place at head tail) l r i w =
    with_held l _ _ r (λ h e k. trim_clean h (trim_by f h (in_ticks f head tail)) k)
edited_clean f (A.Slip place at by) l r i w =
    with_held l _ _ r (λ h e k. slip_clean f (by *ℤ f) h k)
edited_clean f (A.Slide place at by) l r i w =
    with_held l _ _ r (λ h e k. beside_clean f (by *ℤ f) h k)
edited_clean f (A.Ripple place at head tail) l r i w =
    with_held l _ _ r (λ h e k. ripple_clean h (ripple_by f h.item (in_ticks f head tail)) k)
edited_clean f (A.Roll place at head tail) l r i w =
    with_held l _ _ r (λ h e k. roll_clean h (roll_by f h (in_ticks f head tail)) k)

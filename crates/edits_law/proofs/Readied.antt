-- Each item that an edit gives another range can get one.
use Rattle.std.proofs.Common.{◌≡◌, refl, subst, ℤ, pos, ◌+ℤ◌, ◌-ℤ◌, ◌*ℤ◌, ◌&&◌, ◌||◌, Bool, true, false, Option, Some, None, List, [], ◌∷◌, ◌++◌, arith}
use Rattle.std.specs.Prelude.{int_lt, int_le, is_some}
use Rattle.std.specs.Option.{option_or}
use Rattle.std.proofs.lemmas.Int.{ints, by_lt_z}
use Rattle.tick_time.specs.declared.spans.Span.{Span}
use Rattle.otio_model.specs.declared.compositions.ItemOf.{ItemOf}
use Rattle.otio_model.specs.declared.compositions.ItemOf.TheVariants.{Clip, Gap, Transition, Stack, Track}
use Rattle.otio_model.specs.declared.compositions.Listed.{Listed}
use Rattle.otio_model.specs.declared.effect_types.Effect.{Effect}
use Rattle.otio_model.specs.declared.edit_types.Edit.{Edit}
use Rattle.otio_model.specs.declared.edit_types.Edit.TheVariants as A
use Rattle.otio_model.specs.declared.edit_types.FillMode.{FillMode}
use Rattle.otio_model.specs.declared.edit_types.FillMode.TheVariants as M
use Rattle.otio_model.specs.declared.edit_types.RemoveMode.{RemoveMode}
use Rattle.otio_model.specs.declared.edit_types.RemoveMode.TheVariants as R
use Rattle.otio_model.specs.Lengths.{clip_range}
use Rattle.coord.specs.Soundness.{fault_of}
use Rattle.otio_model.specs.Trees.{is_transition}
use Rattle.coord.specs.Sights.{overlap_of}
use Rattle.edits.specs.Splices.{is_stripped}
use Rattle.edits.specs.Children.{Child, Old, ticks}
use Rattle.edits.specs.Cuts.{strip, olds, front, back, put_between}
use Rattle.edits.specs.Edges.{Held, held_at, first_changed, last_changed, last_item, first_item, moved, slipped_item, grown, gap_of, is_zero, is_gap, is_gap_at, trimmed_before, trimmed_behind, left_before, left_behind, moves_zone, one, Moves, slid, slide_by, slide_zone, slipped, slip_by, rippled, ripple_by, rolled, roll_by, trimmed, trim_by, item_zone}
use Rattle.edits.specs.Edits.{edited, at_held, beside, filling, in_ticks, with_effect, in_place}
use Rattle.edits.specs.Good.{Suits}
use Rattle.edits.specs.Steady.{IsRangedBefore, AreRangedBefore, IsReady, AreReady, HasReadyItem}
use Rattle.edits_law.proofs.Splice.{cases}
use Rattle.edits_law.proofs.Pieces.{no_transition}
use Rattle.edits_law.proofs.Sorts.{point, thing, sort}
use Rattle.edits_law.proofs.Accepted.{found}
use Rattle.edits_law.proofs.AllLaws.{with_thing}

-- an item without a fault is ready
pub sound_ready : (x : ItemOf Listed) → fault_of x ≡ None → IsReady x
sound_ready (Clip c) e s n t = by (clip_range c) c.source_range refl refl
  where
    by : (o p : Option Span) → clip_range c ≡ o → c.source_range ≡ p → is_some (option_or (clip_range c) c.source_range) ≡ true
    by None None f g = absurd (cc (rw (f, g) at e))
    by None (Some q) f g = rw (f, g) refl
    by (Some q) p f g = rw f refl
sound_ready (Gap g) e s n t = tt
sound_ready (Transition o) e s n t = absurd (cc t)
sound_ready (Stack k) e s n t = tt
sound_ready (Track k) e s n t = tt

join : (l m : List Child) → AreRangedBefore l → AreRangedBefore m → AreRangedBefore (l ++ m)
join [] m a b = b
join (c ∷ l) m a b = (a.0, join l m a.1 b)

all_olds : (l : List (ItemOf Listed)) → AreRangedBefore (olds l)
all_olds [] = tt
all_olds (x ∷ l) = (tt, all_olds l)

strip_ready : (l : List (ItemOf Listed)) (a b : ℤ) → AreReady l → AreReady (strip l a b)
strip_ready [] a b r = tt
strip_ready (x ∷ l) a b r = cases (is_stripped a b (overlap_of x)) (λ s. rw s (strip_ready l a b r.1)) (λ s. rw s (r.0, strip_ready l (a -ℤ ticks x) (b -ℤ ticks x) r.1))

front_ready : (l : List (ItemOf Listed)) (t : ℤ) → AreReady l → AreRangedBefore (front l t)
front_ready [] t r = cases (int_lt (pos 0) t) (λ s. rw s (tt, tt)) (λ s. rw s tt)
front_ready (x ∷ l) t r = by_lt_z (pos 0) t
    (λ h. let e : int_lt (pos 0) t ≡ true = grind (arith, ints) in by_lt_z t (ticks x)
    (λ k. let f : int_le (ticks x) t ≡ false = grind (arith, ints) in rw (e, f) (r.0 _ _ (no_transition x t h k), tt))
    (λ k. let f : int_le (ticks x) t ≡ true = grind (arith, ints) in rw (e, f) (tt, front_ready l (t -ℤ ticks x) r.1)))
    (λ h. let e : int_lt (pos 0) t ≡ false = grind (arith, ints) in rw e tt)

back_ready : (l : List (ItemOf Listed)) (t : ℤ) → AreReady l → AreRangedBefore (back l t)
back_ready [] t r = tt
back_ready (x ∷ l) t r = by_lt_z (pos 0) t
    (λ h. let e : int_lt (pos 0) t ≡ true = grind (arith, ints) in by_lt_z t (ticks x)
    (λ k. let f : int_le (ticks x) t ≡ false = grind (arith, ints) in rw (e, f) (r.0 _ _ (no_transition x t h k), all_olds l))
    (λ k. let f : int_le (ticks x) t ≡ true = grind (arith, ints) in rw (e, f) (back_ready l (t -ℤ ticks x) r.1)))
    (λ h. let e : int_lt (pos 0) t ≡ false = grind (arith, ints) in rw e (tt, all_olds l))

between_ready : (l : List (ItemOf Listed)) (a b c d : ℤ) (n : List Child) → AreReady l → AreRangedBefore n → AreRangedBefore (put_between (strip l a b) c n d)
between_ready l a b c d n r k = join (front (strip l a b) c) _ (front_ready (strip l a b) c (strip_ready l a b r)) (join n _ k (back_ready (strip l a b) d (strip_ready l a b r)))

-- ---- edges

moved_ready : (h t : ℤ) (x : ItemOf Listed) → IsReady x → overlap_of x ≡ None → IsRangedBefore (moved h t x)
moved_ready h t x r e = cases (is_zero h && is_zero t) (λ s. rw s tt) (λ s. rw s (r _ _ e))

slipped_ready : (d : ℤ) (x : ItemOf Listed) → IsReady x → overlap_of x ≡ None → IsRangedBefore (slipped_item d x)
slipped_ready d x r e = cases (is_zero d || is_gap x) (λ s. rw s tt) (λ s. rw s (r _ _ e))

grown_ready : (n : ℤ) (x : ItemOf Listed) → IsReady x → overlap_of x ≡ None → AreRangedBefore (grown n x)
grown_ready n x r e = cases (is_zero n) (λ s. rw s (tt, tt)) (λ s. cases (int_lt (pos 0) (ticks x +ℤ n)) (λ t. rw (s, t) (r _ _ e, tt)) (λ t. rw (s, t) tt))

gap_ready : (n : ℤ) → AreRangedBefore (gap_of n)
gap_ready n = cases (int_lt (pos 0) n) (λ s. rw s (tt, tt)) (λ s. rw s tt)

first_ready : (f : ItemOf Listed → List Child) (l : List (ItemOf Listed)) → ((x : ItemOf Listed) → IsReady x → overlap_of x ≡ None → AreRangedBefore (f x)) → AreReady l → AreRangedBefore (first_changed f l)
first_ready f [] g r = tt
first_ready f (x ∷ l) g r = elim (sort x) [
  | point o t e z ↦ rw t (tt, first_ready f l g r.1)
  | thing t e ↦ rw t (join (f x) (olds l) (g x r.0 e) (all_olds l))
]

-- what is no transition has no overlap
pub no_overlap_last : (b : Bool) (y : ItemOf Listed) → (b || is_transition y) ≡ false
    → overlap_of y ≡ None
no_overlap_last b (Clip c) e = refl
no_overlap_last b (Gap c) e = refl
no_overlap_last b (Transition c) e = absurd (never b e)
  where
    never : (d : Bool) → (d || true) ≡ false → ⊥
    never true z = cc z
    never false z = cc z
no_overlap_last b (Stack c) e = refl
no_overlap_last b (Track c) e = refl

last_ready : (f : ItemOf Listed → List Child) (l : List (ItemOf Listed)) → ((x : ItemOf Listed) → IsReady x → overlap_of x ≡ None → AreRangedBefore (f x)) → AreReady l → AreRangedBefore (last_changed f l)
last_ready f [] g r = tt
last_ready f (x ∷ l) g r = cases (is_some (last_item l) || is_transition x)
    (λ s. rw s (tt, last_ready f l g r.1))
    (λ s. rw s (join (f x) (olds l) (g x r.0 (no_overlap_last (is_some (last_item l)) x s)) (all_olds l)))

ready_first : (l m : List (ItemOf Listed)) → AreReady (l ++ m) → AreReady l
ready_first [] m r = tt
ready_first (x ∷ l) m r = (r.0, ready_first l m r.1)

ready_second : (l m : List (ItemOf Listed)) → AreReady (l ++ m) → AreReady m
ready_second [] m r = r
ready_second (x ∷ l) m r = ready_second l m r.1

record Readied (h : Held) : Type 0 where
  before : AreReady h.before
  item : IsReady h.item
  thing : overlap_of h.item ≡ None
  behind : AreReady h.behind

readied : (l : List (ItemOf Listed)) (w : ℤ) (h : Held) → AreReady l → held_at l w ≡ Some h → Readied h
readied l w h r e =
    let k = found l w h e in let from = k.from in let to = k.to in
    let s = subst AreReady k.parts r in
    let t = ready_second h.before (h.item ∷ h.behind) s in
    record {
      before = ready_first h.before _ s;
      item = t.0;
      thing = elim (sort h.item) [ point o p q z ↦ absurd (omega (arith, ints)) | thing p q ↦ q ];
      behind = t.1;
    }

with_held : (l : List (ItemOf Listed)) (w : ℤ) (g : Held → List Child) → AreReady l → ((h : Held) → Readied h → AreRangedBefore (g h)) → AreRangedBefore (at_held l w g)
with_held l w g r k = by (held_at l w) refl
  where
    by : (o : Option Held) → held_at l w ≡ o → AreRangedBefore (at_held l w g)
    by None e = rw (e, at_held) (all_olds l)
    by (Some h) e = rw (e, at_held) (k h (readied l w h r e))

effect_ready : (e : Effect) (x : ItemOf Listed) → IsReady x → IsReady (with_effect e x)
effect_ready e (Clip c) r = r
effect_ready e (Gap g) r = λ s n t. tt
effect_ready e (Transition o) r = λ s n t. absurd (cc t)
effect_ready e (Stack k) r = λ s n t. tt
effect_ready e (Track k) r = λ s n t. tt

filling_ready : (mode : FillMode) (x : ItemOf Listed) (room : ℤ) → IsReady x → overlap_of x ≡ None → IsRangedBefore (filling mode x room)
filling_ready M.Source x room r e = tt
filling_ready M.Sequence x room r e = cases (int_lt room (ticks x)) (λ s. rw s (r _ _ e)) (λ s. rw s tt)
filling_ready M.Fit x room r e = effect_ready _ x r _ _ (with_thing _ x e)

place_ready : (mode : RemoveMode) (h : Held) → AreRangedBefore (in_place mode h)
place_ready R.Gap h = (tt, tt)
place_ready R.Close h = tt

before_ready : (h : Held) (m : Moves) → Readied h → AreRangedBefore (trimmed_before h m)
before_ready h m r = cases (is_gap_at (last_item h.before))
    (λ s. rw s (last_ready (grown m.head) _ (grown_ready m.head) (strip_ready h.before _ _ r.before)))
    (λ s. rw s (join (olds (left_before h (moves_zone h m))) _ (all_olds _) (gap_ready m.head)))

behind_ready : (h : Held) (m : Moves) → Readied h → AreRangedBefore (trimmed_behind h m)
behind_ready h m r = cases (is_gap_at (first_item h.behind))
    (λ s. rw s (first_ready (grown (pos 0 -ℤ m.tail)) _ (grown_ready (pos 0 -ℤ m.tail)) (strip_ready h.behind _ _ r.behind)))
    (λ s. rw s (join (gap_of (pos 0 -ℤ m.tail)) _ (gap_ready (pos 0 -ℤ m.tail)) (all_olds (left_behind h (moves_zone h m)))))

trim_ready : (h : Held) (m : Moves) → Readied h → AreRangedBefore (trimmed h m)
trim_ready h m k = join (trimmed_before h m) (moved m.head m.tail h.item ∷ trimmed_behind h m) (before_ready h m k) (moved_ready m.head m.tail h.item k.item k.thing, behind_ready h m k)

slip_ready : (f by : ℤ) (h : Held) → Readied h → AreRangedBefore (slipped f h by)
slip_ready f by h k = join (olds h.before) (slipped_item (slip_by f h by) h.item ∷ olds h.behind) (all_olds h.before) (slipped_ready (slip_by f h by) h.item k.item k.thing, all_olds h.behind)

tails_ready : (t : ℤ) (l : List (ItemOf Listed)) → AreReady l → AreRangedBefore (last_changed (λ y. one (moved (pos 0) t y)) l)
tails_ready t l r = last_ready (λ y. one (moved (pos 0) t y)) l (λ x p q. (moved_ready (pos 0) t x p q, tt)) r

heads_ready : (t : ℤ) (l : List (ItemOf Listed)) → AreReady l → AreRangedBefore (first_changed (λ z. one (moved t (pos 0) z)) l)
heads_ready t l r = first_ready (λ z. one (moved t (pos 0) z)) l (λ x p q. (moved_ready t (pos 0) x p q, tt)) r

slide_ready : (h : Held) (d : ℤ) → Readied h → AreRangedBefore (slid h d)
slide_ready h d k = join (last_changed (λ y. one (moved (pos 0) d y)) (left_before h (slide_zone h d))) (Old h.item ∷ olds (left_behind h (slide_zone h d))) (tails_ready d (left_before h (slide_zone h d)) (strip_ready h.before _ _ k.before)) (tt, all_olds (left_behind h (slide_zone h d)))

ripple_ready : (h : Held) (m : Moves) → Readied h → AreRangedBefore (rippled h m)
ripple_ready h m k = join (olds (left_before h (item_zone h))) (moved m.head m.tail h.item ∷ olds (left_behind h (item_zone h))) (all_olds (left_before h (item_zone h))) (moved_ready m.head m.tail h.item k.item k.thing, all_olds (left_behind h (item_zone h)))

roll_ready : (h : Held) (m : Moves) → Readied h → AreRangedBefore (rolled h m)
roll_ready h m k = join (last_changed (λ y. one (moved (pos 0) m.head y)) (left_before h (moves_zone h m))) (moved m.head m.tail h.item ∷ first_changed (λ z. one (moved m.tail (pos 0) z)) (left_behind h (moves_zone h m)))
    (tails_ready m.head (left_before h (moves_zone h m)) (strip_ready h.before _ _ k.before))
    (moved_ready m.head m.tail h.item k.item k.thing, heads_ready m.tail (left_behind h (moves_zone h m)) (strip_ready h.behind _ _ k.behind))

beside_ready : (f by : ℤ) (h : Held) → Readied h → AreRangedBefore (beside h (λ y. slid h (slide_by f y by)))
beside_ready f by h k = of (last_item h.before) refl
  where
    of : (o : Option (ItemOf Listed)) → last_item h.before ≡ o → AreRangedBefore (beside h (λ y. slid h (slide_by f y by)))
    of None g = rw (g, beside) tt
    of (Some y) g = rw (g, beside) (slide_ready h (slide_by f y by) k)

pub edited_ready : (f : ℤ) (e : Edit) (l : List (ItemOf Listed)) → AreReady l → HasReadyItem e → Suits e → AreRangedBefore (edited f e l)
edited_ready f (A.Overwrite place at x) l r i s = between_ready l _ _ _ _ (Old x ∷ []) r (tt, tt)
edited_ready f (A.Insert place at x) l r i s = between_ready l _ _ _ _ (Old x ∷ []) r (tt, tt)
edited_ready f (A.Slice place at) l r i s = between_ready l _ _ _ _ [] r tt
edited_ready f (A.Fill place at mode x) l r i s = with_held l _ _ r (λ h k. between_ready l _ _ _ _ (filling mode x (ticks h.item) ∷ []) r (filling_ready mode x (ticks h.item) i s, tt))
edited_ready f (A.Remove place at mode) l r i s = with_held l _ _ r (λ h k. between_ready l _ _ _ _ (in_place mode h) r (place_ready mode h))
edited_ready f (A.Trim place at head tail) l r i s = with_held l _ _ r (λ h k. trim_ready h (trim_by f h (in_ticks f head tail)) k)
edited_ready f (A.Slip place at by) l r i s = with_held l _ _ r (λ h k. slip_ready f (by *ℤ f) h k)
edited_ready f (A.Slide place at by) l r i s = with_held l _ _ r (λ h k. beside_ready f (by *ℤ f) h k)
edited_ready f (A.Ripple place at head tail) l r i s = with_held l _ _ r (λ h k. ripple_ready h (ripple_by f h.item (in_ticks f head tail)) k)
edited_ready f (A.Roll place at head tail) l r i s = with_held l _ _ r (λ h k. roll_ready h (roll_by f h (in_ticks f head tail)) k)

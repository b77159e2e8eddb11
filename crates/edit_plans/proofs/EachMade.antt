-- What holds of the items of a list, of the item that an edit puts in and of a new gap holds of
-- each item of the edited list.
use Rattle.std.proofs.Common.{◌≡◌, refl, subst, ℤ, pos, ◌+ℤ◌, ◌-ℤ◌, ◌*ℤ◌, ◌&&◌, ◌||◌, Bool, true}
use Rattle.std.proofs.Common.{false, Option, Some, None, List, [], ◌∷◌, ◌++◌, arith}
use Rattle.std.specs.Prelude.{int_lt, int_le, is_some, option_map}
use Rattle.std.proofs.lemmas.Int.{ints, by_lt_z}
use Rattle.otio_model.specs.declared.compositions.ItemOf.{ItemOf}
use Rattle.otio_model.specs.declared.compositions.Listed.{Listed}
use Rattle.otio_model.specs.declared.edit_types.Edit.{Edit}
use Rattle.otio_model.specs.declared.edit_types.Edit.TheVariants as A
use Rattle.otio_model.specs.declared.edit_types.FillMode.{FillMode}
use Rattle.otio_model.specs.declared.edit_types.FillMode.TheVariants as M
use Rattle.otio_model.specs.declared.edit_types.RemoveMode.{RemoveMode}
use Rattle.otio_model.specs.declared.edit_types.RemoveMode.TheVariants as R
use Rattle.otio_model.specs.Trees.{is_transition}
use Rattle.coord.specs.Sights.{overlap_of}
use Rattle.edits.specs.Splices.{is_stripped}
use Rattle.edits.specs.Children.{Child, Old, Ranged, ticks, with_range, plain_gap, made, with_first}
use Rattle.edits.specs.Children.{all_made, start_rate, length_rate, is_far, has_far}
use Rattle.edits.specs.Finest.{in_range}
use Rattle.edits.specs.Nears.{near, near_by, is_whole, span_of}
use Rattle.tick_time.specs.declared.times.Time.{Time}
use Rattle.edits.specs.Cuts.{strip, olds, front, back, put_between}
use Rattle.edits.specs.Edges.{Held, held_at, first_changed, last_changed, last_item, first_item}
use Rattle.edits.specs.Edges.{moved, slipped_item, grown, gap_of, is_zero, is_gap, is_gap_at}
use Rattle.edits.specs.Edges.{trimmed_before, trimmed_behind, left_before, left_behind, moves_zone}
use Rattle.edits.specs.Edges.{one, Moves, slid, slide_by, slide_zone, slipped, slip_by, rippled}
use Rattle.edits.specs.Edges.{ripple_by, rolled, roll_by, trimmed, trim_by, item_zone}
use Rattle.edits.specs.Edits.{edited, at_held, beside, filling, in_ticks, in_place, with_effect}
use Rattle.tick_time.specs.declared.rates.Rate.{Rate}
use Rattle.tick_time.specs.declared.spans.Span.{Span}
use Rattle.otio_model.specs.declared.effect_types.Effect.{Effect}
use Rattle.edits_law.proofs.Splice.{cases}
use Rattle.edits_law.proofs.Sorts.{point, thing, sort}
use Rattle.edits_law.proofs.Accepted.{found}

-- what holds of an item holds of it with another range or one effect more, and of a new gap
pub record Keeps (P : ItemOf Listed → Type 0) : Type 0 where
  pub ranged : (s : Span) (x : ItemOf Listed) → P x → P (with_range s x)
  pub effect : (e : Effect) (x : ItemOf Listed) → P x → P (with_effect e x)
  pub gap : P plain_gap

abbrev pub All : (ItemOf Listed → Type 0) → List (ItemOf Listed) → Type 0
All P [] = Unit {0}
All P (x ∷ l) = P x × All P l

-- a child is over an item of which it holds
abbrev Over : (ItemOf Listed → Type 0) → Child → Type 0
Over P (Old x) = P x
Over P (Ranged x s n) = P x

abbrev AllOver : (ItemOf Listed → Type 0) → List Child → Type 0
AllOver P [] = Unit {0}
AllOver P (c ∷ l) = Over P c × AllOver P l

abbrev pub OfItem : (ItemOf Listed → Type 0) → Edit → Type 0
OfItem P (A.Overwrite place at x) = P x
OfItem P (A.Insert place at x) = P x
OfItem P (A.Slice place at) = Unit {0}
OfItem P (A.Fill place at mode x) = P x
OfItem P (A.Remove place at mode) = Unit {0}
OfItem P (A.Trim place at head tail) = Unit {0}
OfItem P (A.Slip place at by) = Unit {0}
OfItem P (A.Slide place at by) = Unit {0}
OfItem P (A.Ripple place at head tail) = Unit {0}
OfItem P (A.Roll place at head tail) = Unit {0}

join : (P : ItemOf Listed → Type 0) (l m : List Child) → AllOver P l → AllOver P m
    → AllOver P (l ++ m)
join P [] m a b = b
join P (c ∷ l) m a b = (a.0, join P l m a.1 b)

all_olds : (P : ItemOf Listed → Type 0) (l : List (ItemOf Listed)) → All P l → AllOver P (olds l)
all_olds P [] r = tt
all_olds P (x ∷ l) r = (r.0, all_olds P l r.1)

strip_over : (P : ItemOf Listed → Type 0) (l : List (ItemOf Listed)) (a b : ℤ) → All P l
    → All P (strip l a b)
strip_over P [] a b r = tt
strip_over P (x ∷ l) a b r = cases (is_stripped a b (overlap_of x))
    (λ s. rw s (strip_over P l a b r.1)) (λ s. rw s
    (r.0, strip_over P l (a -ℤ ticks x) (b -ℤ ticks x) r.1))

front_over : (P : ItemOf Listed → Type 0) (keep : Keeps P) (l : List (ItemOf Listed)) (t : ℤ)
    → All P l → AllOver P (front l t)
front_over P keep [] t r = cases (int_lt (pos 0) t) (λ s. rw s (keep.gap, tt)) (λ s. rw s tt)
front_over P keep (x ∷ l) t r = by_lt_z (pos 0) t
    (λ h. let e : int_lt (pos 0) t ≡ true = grind (arith, ints) in by_lt_z t (ticks x)
    (λ k. let f : int_le (ticks x) t ≡ false = grind (arith, ints) in rw (e, f) (r.0, tt))
    (λ k. let f : int_le (ticks x) t ≡ true = grind (arith, ints) in
    rw (e, f) (r.0, front_over P keep l (t -ℤ ticks x) r.1)))
    (λ h. let e : int_lt (pos 0) t ≡ false = grind (arith, ints) in rw e tt)

back_over : (P : ItemOf Listed → Type 0) (l : List (ItemOf Listed)) (t : ℤ) → All P l
    → AllOver P (back l t)
back_over P [] t r = tt
back_over P (x ∷ l) t r = by_lt_z (pos 0) t
    (λ h. let e : int_lt (pos 0) t ≡ true = grind (arith, ints) in by_lt_z t (ticks x)
    (λ k. let f : int_le (ticks x) t ≡ false = grind (arith, ints) in
    rw (e, f) (r.0, all_olds P l r.1))
    (λ k. let f : int_le (ticks x) t ≡ true = grind (arith, ints) in
    rw (e, f) (back_over P l (t -ℤ ticks x) r.1)))
    (λ h. let e : int_lt (pos 0) t ≡ false = grind (arith, ints) in rw e (r.0, all_olds P l r.1))

between_over : (P : ItemOf Listed → Type 0) (keep : Keeps P) (l : List (ItemOf Listed))
    (a b c d : ℤ) (n : List Child) → All P l → AllOver P n
    → AllOver P (put_between (strip l a b) c n d)
between_over P keep l a b c d n r k = join P (front (strip l a b) c) _
    (front_over P keep (strip l a b) c (strip_over P l a b r))
    (join P n _ k (back_over P (strip l a b) d (strip_over P l a b r)))

-- ---- edges

moved_over : (P : ItemOf Listed → Type 0) (h t : ℤ) (x : ItemOf Listed) → P x → Over P (moved h t x)
moved_over P h t x r = cases (is_zero h && is_zero t) (λ s. rw s r) (λ s. rw s r)

slipped_over : (P : ItemOf Listed → Type 0) (d : ℤ) (x : ItemOf Listed) → P x
    → Over P (slipped_item d x)
slipped_over P d x r = cases (is_zero d || is_gap x) (λ s. rw s r) (λ s. rw s r)

grown_over : (P : ItemOf Listed → Type 0) (n : ℤ) (x : ItemOf Listed) → P x → AllOver P (grown n x)
grown_over P n x r = cases (is_zero n) (λ s. rw s (r, tt))
    (λ s. cases (int_lt (pos 0) (ticks x +ℤ n)) (λ t. rw (s, t) (r, tt)) (λ t. rw (s, t) tt))

gap_over : (P : ItemOf Listed → Type 0) (keep : Keeps P) (n : ℤ) → AllOver P (gap_of n)
gap_over P keep n = cases (int_lt (pos 0) n) (λ s. rw s (keep.gap, tt)) (λ s. rw s tt)

first_over : (P : ItemOf Listed → Type 0) (f : ItemOf Listed → List Child)
    (l : List (ItemOf Listed)) → ((x : ItemOf Listed) → P x → AllOver P (f x)) → All P l
    → AllOver P (first_changed f l)
first_over P f [] g r = tt
first_over P f (x ∷ l) g r = elim (sort x) [
  | point o t e z ↦ rw t (r.0, first_over P f l g r.1)
  | thing t e ↦ rw t (join P (f x) (olds l) (g x r.0) (all_olds P l r.1))
]

last_over : (P : ItemOf Listed → Type 0) (f : ItemOf Listed → List Child) (l : List (ItemOf Listed))
    → ((x : ItemOf Listed) → P x → AllOver P (f x)) → All P l → AllOver P (last_changed f l)
last_over P f [] g r = tt
last_over P f (x ∷ l) g r = cases (is_some (last_item l) || is_transition x)
    (λ s. rw s (r.0, last_over P f l g r.1))
    (λ s. rw s (join P (f x) (olds l) (g x r.0) (all_olds P l r.1)))

first_part : (P : ItemOf Listed → Type 0) (l m : List (ItemOf Listed)) → All P (l ++ m) → All P l
first_part P [] m r = tt
first_part P (x ∷ l) m r = (r.0, first_part P l m r.1)

second_part : (P : ItemOf Listed → Type 0) (l m : List (ItemOf Listed)) → All P (l ++ m) → All P m
second_part P [] m r = r
second_part P (x ∷ l) m r = second_part P l m r.1

record HeldAll (P : ItemOf Listed → Type 0) (h : Held) : Type 0 where
  before : All P h.before
  item : P h.item
  behind : All P h.behind

held_over : (P : ItemOf Listed → Type 0) (l : List (ItemOf Listed)) (w : ℤ) (h : Held) → All P l
    → held_at l w ≡ Some h → HeldAll P h
held_over P l w h r e =
    let k = found l w h e in
    let s = subst (All P) k.parts r in
    let t = second_part P h.before (h.item ∷ h.behind) s in
    record {
      before = first_part P h.before _ s;
      item = t.0;
      behind = t.1;
    }

with_held : (P : ItemOf Listed → Type 0) (l : List (ItemOf Listed)) (w : ℤ) (g : Held → List Child)
    → All P l → ((h : Held) → HeldAll P h → AllOver P (g h)) → AllOver P (at_held l w g)
with_held P l w g r k = by (held_at l w) refl
  where
    by : (o : Option Held) → held_at l w ≡ o → AllOver P (at_held l w g)
    by None e = rw (e, at_held) (all_olds P l r)
    by (Some h) e = rw (e, at_held) (k h (held_over P l w h r e))

filling_over : (P : ItemOf Listed → Type 0) (keep : Keeps P) (mode : FillMode) (x : ItemOf Listed)
    (room : ℤ) → P x → Over P (filling mode x room)
filling_over P keep M.Source x room r = r
filling_over P keep M.Sequence x room r = cases (int_lt room (ticks x)) (λ s. rw s r) (λ s. rw s r)
filling_over P keep M.Fit x room r = keep.effect _ x r

place_over : (P : ItemOf Listed → Type 0) (keep : Keeps P) (mode : RemoveMode) (h : Held)
    → AllOver P (in_place mode h)
place_over P keep R.Gap h = (keep.gap, tt)
place_over P keep R.Close h = tt

before_over : (P : ItemOf Listed → Type 0) (keep : Keeps P) (h : Held) (m : Moves) → HeldAll P h
    → AllOver P (trimmed_before h m)
before_over P keep h m r = cases (is_gap_at (last_item h.before))
    (λ s. rw s (last_over P (grown m.head) _ (grown_over P m.head)
    (strip_over P h.before _ _ r.before)))
    (λ s. rw s (join P (olds (left_before h (moves_zone h m))) _
    (all_olds P _ (strip_over P h.before _ _ r.before)) (gap_over P keep m.head)))

behind_over : (P : ItemOf Listed → Type 0) (keep : Keeps P) (h : Held) (m : Moves) → HeldAll P h
    → AllOver P (trimmed_behind h m)
behind_over P keep h m r = cases (is_gap_at (first_item h.behind))
    (λ s. rw s (first_over P (grown (pos 0 -ℤ m.tail)) _ (grown_over P (pos 0 -ℤ m.tail))
    (strip_over P h.behind _ _ r.behind)))
    (λ s. rw s (join P (gap_of (pos 0 -ℤ m.tail)) _ (gap_over P keep (pos 0 -ℤ m.tail))
    (all_olds P (left_behind h (moves_zone h m)) (strip_over P h.behind _ _ r.behind))))

trim_over : (P : ItemOf Listed → Type 0) (keep : Keeps P) (h : Held) (m : Moves) → HeldAll P h
    → AllOver P (trimmed h m)
trim_over P keep h m k = join P (trimmed_before h m)
    (moved m.head m.tail h.item ∷ trimmed_behind h m) (before_over P keep h m k)
    (moved_over P m.head m.tail h.item k.item, behind_over P keep h m k)

slip_over : (P : ItemOf Listed → Type 0) (f by : ℤ) (h : Held) → HeldAll P h
    → AllOver P (slipped f h by)
slip_over P f by h k = join P (olds h.before) (slipped_item (slip_by f h by) h.item ∷ olds h.behind)
    (all_olds P h.before k.before) (
      slipped_over P (slip_by f h by) h.item k.item,
      all_olds P
          h.behind k.behind,
    )

tails_over : (P : ItemOf Listed → Type 0) (t : ℤ) (l : List (ItemOf Listed)) → All P l
    → AllOver P (last_changed (λ y. one (moved (pos 0) t y)) l)
tails_over P t l r = last_over P (λ y. one (moved (pos 0) t y)) l
    (λ x p. (moved_over P (pos 0) t x p, tt)) r

heads_over : (P : ItemOf Listed → Type 0) (t : ℤ) (l : List (ItemOf Listed)) → All P l
    → AllOver P (first_changed (λ z. one (moved t (pos 0) z)) l)
heads_over P t l r = first_over P (λ z. one (moved t (pos 0) z)) l
    (λ x p. (moved_over P t (pos 0) x p, tt)) r

slide_over : (P : ItemOf Listed → Type 0) (h : Held) (d : ℤ) → HeldAll P h → AllOver P (slid h d)
slide_over P h d k = join P (last_changed (λ y. one (moved (pos 0) d y))
    (left_before h (slide_zone h d))) (Old h.item ∷ olds (left_behind h (slide_zone h d)))
    (tails_over P d (left_before h (slide_zone h d)) (strip_over P h.before _ _ k.before)) (
      k.item,
      all_olds P (left_behind h (slide_zone h d))
          (strip_over P h.behind _ _ k.behind),
    )

ripple_over : (P : ItemOf Listed → Type 0) (h : Held) (m : Moves) → HeldAll P h
    → AllOver P (rippled h m)
ripple_over P h m k = join P (olds (left_before h (item_zone h)))
    (moved m.head m.tail h.item ∷ olds (left_behind h (item_zone h)))
    (all_olds P (left_before h (item_zone h)) (strip_over P h.before _ _ k.before)) (
      moved_over P m.head m.tail h.item k.item,
      all_olds P (left_behind h (item_zone h))
          (strip_over P h.behind _ _ k.behind),
    )

roll_over : (P : ItemOf Listed → Type 0) (h : Held) (m : Moves) → HeldAll P h
    → AllOver P (rolled h m)
roll_over P h m k = join P (last_changed (λ y. one (moved (pos 0) m.head y))
    (left_before h (moves_zone h m))) (moved m.head m.tail h.item
    ∷ first_changed (λ z. one (moved m.tail (pos 0) z)) (left_behind h (moves_zone h m)))
    (tails_over P m.head (left_before h (moves_zone h m)) (strip_over P h.before _ _ k.before)) (
      moved_over P m.head m.tail h.item k.item,
      heads_over P m.tail (left_behind h (moves_zone h m))
          (strip_over P h.behind _ _ k.behind),
    )

beside_over : (P : ItemOf Listed → Type 0) (f by : ℤ) (h : Held) → HeldAll P h
    → AllOver P (beside h (λ y. slid h (slide_by f y by)))
beside_over P f by h k = of (last_item h.before) refl
  where
    of : (o : Option (ItemOf Listed)) → last_item h.before ≡ o
        → AllOver P (beside h (λ y. slid h (slide_by f y by)))
    of None g = rw (g, beside) tt
    of (Some y) g = rw (g, beside) (slide_over P h (slide_by f y by) k)

pub edited_over : (P : ItemOf Listed → Type 0) (keep : Keeps P) (f : ℤ) (e : Edit)
    (l : List (ItemOf Listed)) → All P l → OfItem P e → AllOver P (edited f e l)
edited_over P keep f (A.Overwrite place at x) l r i =
    between_over P keep l _ _ _ _ (Old x ∷ []) r (i, tt)
edited_over P keep f (A.Insert place at x) l r i =
    between_over P keep l _ _ _ _ (Old x ∷ []) r (i, tt)
edited_over P keep f (A.Slice place at) l r i = between_over P keep l _ _ _ _ [] r tt
edited_over P keep f (A.Fill place at mode x) l r i =
    with_held P l _ _ r (λ h k. between_over P keep l _ _ _ _ (filling mode x (ticks h.item) ∷ []) r
    (filling_over P keep mode x (ticks h.item) i, tt))
edited_over P keep f (A.Remove place at mode) l r i =
    with_held P l _ _ r (λ h k. between_over P keep l _ _ _ _ (in_place mode h) r
    (place_over P keep mode h))
edited_over P keep f (A.Trim place at head tail) l r i =
    with_held P l _ _ r (λ h k. trim_over P keep h (trim_by f h (in_ticks f head tail)) k)
edited_over P keep f (A.Slip place at by) l r i = with_held P l _ _ r
    (λ h k. slip_over P f (by *ℤ f) h k)
edited_over P keep f (A.Slide place at by) l r i =
    with_held P l _ _ r (λ h k. beside_over P f (by *ℤ f) h k)
edited_over P keep f (A.Ripple place at head tail) l r i =
    with_held P l _ _ r (λ h k. ripple_over P h (ripple_by f h.item (in_ticks f head tail)) k)
edited_over P keep f (A.Roll place at head tail) l r i =
    with_held P l _ _ r (λ h k. roll_over P h (roll_by f h (in_ticks f head tail)) k)

-- ---- what is made of them

record Both (r : Rate) (c : Child) (l : List Child) (m : List (ItemOf Listed)) : Type 0 where
  first : ItemOf Listed
  rest : List (ItemOf Listed)
  is : first ∷ rest ≡ m
  one : made r c ≡ Some first
  others : all_made r l ≡ Some rest

split : (r : Rate) (c : Child) (l : List Child) (m : List (ItemOf Listed))
    → all_made r (c ∷ l) ≡ Some m → Both r c l m
split r c l m e = by (made r c) (all_made r l) refl refl e
  where
    by : (o : Option (ItemOf Listed)) (q : Option (List (ItemOf Listed))) → made r c ≡ o
        → all_made r l ≡ q → with_first o q ≡ Some m → Both r c l m
    by None q f g h = absurd (cc h)
    by (Some x) None f g h = absurd (cc h)
    by (Some x) (Some n) f g h = record { first = x; rest = n; is = cc h; one = f; others = g }

one_made : (P : ItemOf Listed → Type 0) (keep : Keeps P) (r : Rate) (c : Child) (x : ItemOf Listed)
    → Over P c → made r c ≡ Some x → P x
one_made P keep r (Old y) x o e = let same : y ≡ x = cc e in subst P same o
one_made P keep r (Ranged y s n) x o e = by (span_of (near s (start_rate r y))
    (near n (length_rate r y))) e
  where
    by : (q : Option Span) → option_map (λ w. with_range w y) q ≡ Some x → P x
    by None h = absurd (cc h)
    by (Some w) h = let same : with_range w y ≡ x = cc h in subst P same (keep.ranged w y o)

list_made : (P : ItemOf Listed → Type 0) (keep : Keeps P) (r : Rate) (l : List Child)
    (m : List (ItemOf Listed)) → AllOver P l → all_made r l ≡ Some m → All P m
list_made P keep r [] m o e = let same : [] ≡ m = cc e in subst (All P) same tt
list_made P keep r (c ∷ l) m o e =
    let b = split r c l m e in
    subst (All P) b.is (
      one_made P keep r c b.first o.0 b.one,
      list_made P keep r l b.rest o.1
          b.others,
    )

-- what is made of an edited list keeps what holds of the items that went into it
pub each_made : (P : ItemOf Listed → Type 0) (keep : Keeps P) (r : Rate) (f : ℤ) (e : Edit)
    (l m : List (ItemOf Listed)) → All P l → OfItem P e → all_made r (edited f e l) ≡ Some m
    → All P m
each_made P keep r f e l m a i h = list_made P keep r (edited f e l) m
    (edited_over P keep f e l a i) h

-- nothing that was made is far
near_none : (z : ℤ) (r : Rate) (b : Bool) (e : in_range z ≡ b) (c : Bool) (f : is_whole z r ≡ c)
    (t : Time) → near_by z r b e c f ≡ Some t → in_range z ≡ true
near_none z r false e c f t g = absurd (cc g)
near_none z r true e c f t g = e

record Spanned (o p : Option Time) : Type 0 where
  start : Time
  len : Time
  first : o ≡ Some start
  second : p ≡ Some len

spanned : (o p : Option Time) (w : Span) → span_of o p ≡ Some w → Spanned o p
spanned None p w e = absurd (cc e)
spanned (Some a) None w e = absurd (cc e)
spanned (Some a) (Some b) w e = record { start = a; len = b; first = refl; second = refl }

one_near : (r : Rate) (c : Child) (x : ItemOf Listed) → made r c ≡ Some x → is_far c ≡ false
one_near r (Old y) x e = refl
one_near r (Ranged y s n) x e = by (span_of (near s (start_rate r y)) (near n (length_rate r y)))
    refl e
  where
    by : (q : Option Span) → span_of (near s (start_rate r y)) (near n (length_rate r y)) ≡ q
        → option_map (λ w. with_range w y) q ≡ Some x → is_far (Ranged y s n) ≡ false
    by None f h = absurd (cc h)
    by (Some w) f h =
        let k = spanned _ _ w f in
        let first : in_range s ≡ true = near_none s (start_rate r y) (in_range s) refl
        (is_whole s (start_rate r y)) refl k.start k.first in
        let second : in_range n ≡ true = near_none n (length_rate r y) (in_range n) refl
        (is_whole n (length_rate r y)) refl k.len k.second in
        rw (first, second) refl

pub list_near : (r : Rate) (l : List Child) (m : List (ItemOf Listed)) → all_made r l ≡ Some m
    → has_far l ≡ false
list_near r [] m e = refl
list_near r (c ∷ l) m e =
    let b = split r c l m e in
    rw (one_near r c b.first b.one, list_near r l b.rest b.others) refl

-- How many items the steps leave.
use Rattle.std.proofs.Common.{◌≡◌, refl, sym, subst, ap, ◌∙◌, ℕ, ◌+◌, ◌≤◌, ◌<◌, ℤ, pos, ◌-ℤ◌, Bool, true, false, cond, List, [], ◌∷◌, ◌++◌, Option, Some, None, map, arith}
use Rattle.std.specs.Prelude.{filter, flat_map, int_lt, int_le, length, min, not, option_map, option_and_then, take}
use Rattle.std.proofs.lemmas.List.{take_more}
use Rattle.std.proofs.Math.ListN.{get_or}
use Rattle.tick_time.specs.declared.rates.Rate.{Rate}
use Rattle.tick_time.specs.declared.spans.Span.{Span}
use Rattle.otio_model.specs.declared.compositions.ItemOf.{ItemOf}
use Rattle.otio_model.specs.declared.compositions.ItemOf.TheVariants.{Clip, Gap, Transition, Stack, Track}
use Rattle.otio_model.specs.declared.compositions.Listed.{Listed}
use Rattle.otio_model.specs.declared.compositions.Listed.TheViews.{roll-out-Listed}
use Rattle.otio_model.specs.declared.compositions.Listed.TheFolds.{map-Listed, ind-Listed}
use Rattle.otio_model.specs.declared.timelines.Timeline.{Timeline}
use Rattle.otio_model.specs.Timelines.{bare}
use Rattle.otio_model.specs.Trees.{listed, items_of, is_transition}
use Rattle.otio_model.specs.Kept.{capped_count}
use Rattle.otio_model.specs.Counts.{count, count_of, counts_by}
use Rattle.otio_model.specs.Falls.{count-listed, counts-append}
use Rattle.coord.specs.Sights.{overlap_of}
use Rattle.edits.specs.Children.{Child, Old, Ranged, ticks, with_range, made, all_made, with_first, start_rate, length_rate}
use Rattle.edits.specs.Cuts.{strip, olds, back}
use Rattle.edits.specs.Nears.{near, span_of}
use Rattle.edits.specs.Splices.{is_stripped}
use Rattle.edits.specs.After.{rate_of}
use Rattle.edits.specs.Edges.{added}
use Rattle.flat.specs.Piled.{IsPiled}
use Rattle.flat.specs.Roots.{items_in as children_in, roots, with_roots}
use Rattle.flat.specs.Straight.{without, straight, IsStraight}
use Rattle.flat.specs.Windowed.{front_alone, stripped, window_of, with_items, window_track, window_tracks, from_start, IsWindowed}
use Rattle.flat_law.proofs.Straight.{whole_item, straight-listed}
use Rattle.coord.proofs.Members.{same_some}
use Rattle.flat_stack.specs.Gathered.{items_in}
use Rattle.edits.specs.Good.{item_of}
use Rattle.flat_stack.proofs.CountLemmas.{range_count}

pub count_bare : (t u : Timeline) → bare t ≡ bare u
    → count t.tracks.children ≡ count u.tracks.children
count_bare t u e = ap (λ (z : Timeline). count z.tracks.children) e

pub counts_of : (l : Listed) → count l ≡ counts_by count (items_of l)
counts_of l = omega (arith, count-listed (items_of l), ap count (roll-out-Listed l))

-- ---- some of a list

pub counts_filter : (test : ItemOf Listed → Bool) (l : List (ItemOf Listed))
    → counts_by count (filter test l) ≤ counts_by count l
counts_filter test [] = omega arith
counts_filter test (x ∷ l) = of (test x) (counts_filter test l)
  where
    of : (b : Bool) → counts_by count (filter test l) ≤ counts_by count l
        → counts_by count (cond b (x ∷ filter test l) (filter test l)) ≤ counts_by count (x ∷ l)
    of true h = omega (arith, h)
    of false h = omega (arith, h)

pub only_count : (test : ItemOf Listed → Bool) (t r : Timeline)
    → bare r ≡ bare (with_roots (filter test (roots t)) t)
    → count r.tracks.children ≤ count t.tracks.children
only_count test t r e =
    omega (
      arith,
      count_bare r (with_roots (filter test (roots t)) t) e,
      count-listed (filter test (roots t)),
      counts_filter test (roots t),
      counts_of t.tracks.children,
    )

-- ---- without transitions

abbrev Shrinks : Listed → Type 0
Shrinks l = count (straight l) ≤ count l

abbrev Shrunk : Type 0
Shrunk = (l : Listed) × Shrinks l

abbrev plain : List (ItemOf Shrunk) → List (ItemOf Listed)
plain ys = (map-Listed Shrunk Listed (λ e. e.0) (record { list = ys })).list

inner : (l : Listed) → Shrinks l → count (listed (without (items_of (straight l)))) ≤ count l
inner l h =
    omega (
      arith,
      h,
      count-listed (without (items_of (straight l))),
      counts_filter (λ x. not (is_transition x)) (items_of (straight l)),
      counts_of (straight l),
    )

all_shrink : (ys : List (ItemOf Shrunk))
    → counts_by count (map whole_item (plain ys)) ≤ counts_by count (plain ys)
all_shrink [] = omega arith
all_shrink ((Clip c) ∷ ys) = omega (arith, all_shrink ys)
all_shrink ((Gap c) ∷ ys) = omega (arith, all_shrink ys)
all_shrink ((Transition c) ∷ ys) = omega (arith, all_shrink ys)
all_shrink ((Stack s) ∷ ys) = omega (arith, all_shrink ys, s.children.1)
all_shrink ((Track t) ∷ ys) = omega (arith, all_shrink ys, inner t.children.0 t.children.1)

straight_shrinks : (l : Listed) → Shrinks l
straight_shrinks = ind-Listed Shrinks (λ x y is.
    let list : counts_by count (map whole_item x.list) ≤ counts_by count x.list =
    subst (λ z. counts_by count (map whole_item z.list) ≤ counts_by count z.list) is
    (all_shrink y.list) in
    omega (
      arith,
      list,
      ap count (straight-listed x.list),
      count-listed (map whole_item x.list),
      count-listed x.list,
    ))

pub straight_count : (t r : Timeline) → IsStraight t r
    → count r.tracks.children ≤ count t.tracks.children
straight_count t r e =
    omega (
      arith,
      straight_shrinks t.tracks.children,
      count_bare r (record t {
        tracks = record t.tracks { children = straight t.tracks.children };
      }) e,
    )

-- ---- a window

abbrev counts_in : List Child → ℕ
counts_in [] = 0
counts_in (c ∷ l) = count_of (item_of c) + counts_in l

made_count : (r : Rate) (c : Child) (y : ItemOf Listed) → made r c ≡ Some y
    → count_of y ≡ count_of (item_of c)
made_count r (Old x) y e = ap count_of (sym (same_some x y e))
made_count r (Ranged x s n) y e =
    of (span_of (near s (start_rate r x)) (near n (length_rate r x))) e
  where
    of : (o : Option Span) → option_map (λ w. with_range w x) o ≡ Some y
        → count_of y ≡ count_of x
    of None f = absurd (cc f)
    of (Some w) f = ap count_of (sym (same_some (with_range w x) y f)) ∙ range_count w x

pub record IsFirst {A : Type 0} (a : Option A) (o : Option (List A)) (l : List A) : Type 0 where
  pub item : A
  pub rest : List A
  pub first : a ≡ Some item
  pub more : o ≡ Some rest
  pub all : l ≡ item ∷ rest

first_is : {A : Type 0} (a : Option A) (o : Option (List A)) (l : List A)
    → with_first a o ≡ Some l → IsFirst a o l
first_is None o l e = absurd (cc e)
first_is (Some a) None l e = absurd (cc e)
first_is (Some a) (Some m) l e = record {
  item = a;
  rest = m;
  first = refl;
  more = refl;
  all = sym (same_some (a ∷ m) l e);
}

all_made_count : (r : Rate) (c : List Child) (l : List (ItemOf Listed)) → all_made r c ≡ Some l
    → counts_by count l ≡ counts_in c
all_made_count r [] l e = ap (counts_by count) (sym (same_some [] l e))
all_made_count r (c ∷ cs) l e =
    let f = first_is (made r c) (all_made r cs) l e in
    omega (
      arith,
      made_count r c f.item f.first,
      all_made_count r cs f.rest f.more,
      ap (counts_by count) f.all,
    )

either : (b : Bool) (l m : List Child) (n : ℕ) → counts_in l ≤ n → counts_in m ≤ n
    → counts_in (cond b l m) ≤ n
either true l m n h k = h
either false l m n h k = k

front_count : (l : List (ItemOf Listed)) (t : ℤ)
    → counts_in (front_alone l t) ≤ counts_by count l
front_count [] t = omega arith
front_count (x ∷ l) t =
    either (int_lt (pos 0) t) _ _ (counts_by count (x ∷ l))
    (either (int_le (ticks x) t) _ _ (counts_by count (x ∷ l))
    (omega (arith, front_count l (t -ℤ ticks x))) (omega arith)) (omega arith)

olds_count : (l : List (ItemOf Listed)) → counts_in (olds l) ≡ counts_by count l
olds_count [] = refl
olds_count (x ∷ l) = ap (λ n. count_of x + n) (olds_count l)

back_count : (l : List (ItemOf Listed)) (t : ℤ) → counts_in (back l t) ≤ counts_by count l
back_count [] t = omega arith
back_count (x ∷ l) t =
    either (int_lt (pos 0) t) _ _ (counts_by count (x ∷ l))
    (either (int_le (ticks x) t) _ _ (counts_by count (x ∷ l))
    (omega (arith, back_count l (t -ℤ ticks x))) (omega (arith, olds_count l)))
    (omega (arith, olds_count l))

strip_count : (l : List (ItemOf Listed)) (a b : ℤ)
    → counts_by count (strip l a b) ≤ counts_by count l
strip_count [] a b = omega arith
strip_count (x ∷ l) a b =
    of (is_stripped a b (overlap_of x)) (strip_count l a b)
    (strip_count l (a -ℤ ticks x) (b -ℤ ticks x))
  where
    of : (c : Bool) → counts_by count (strip l a b) ≤ counts_by count l
        → counts_by count (strip l (a -ℤ ticks x) (b -ℤ ticks x)) ≤ counts_by count l
        → counts_by count (cond c (strip l a b) (x ∷ strip l (a -ℤ ticks x) (b -ℤ ticks x)))
        ≤ counts_by count (x ∷ l)
    of true h k = omega (arith, h)
    of false h k = omega (arith, k)

window_count : (r : Rate) (a b : ℤ) (s items : List (ItemOf Listed))
    → window_of r a b s ≡ Some items → counts_by count items ≤ counts_by count s
window_count r a b s items e = of (int_le (added s) a) e
  where
    cut : (o : Option (List (ItemOf Listed))) → all_made r (front_alone s b) ≡ o
        → option_and_then (λ m. all_made r (back m a)) o ≡ Some items
        → counts_by count items ≤ counts_by count s
    cut None f g = absurd (cc g)
    cut (Some m) f g =
        omega (
          arith,
          all_made_count r (front_alone s b) m f,
          front_count s b,
          all_made_count r (back m a) items g,
          back_count m a,
        )

    of : (c : Bool) → cond c (Some []) (option_and_then (λ m. all_made r (back m a))
        (all_made r (front_alone s b))) ≡ Some items → counts_by count items ≤ counts_by count s
    of true f = let none = ap (counts_by count) (same_some [] items f) in omega (arith, none)
    of false f = cut (all_made r (front_alone s b)) refl f

put_count : (x : ItemOf Listed) (l : List (ItemOf Listed))
    → counts_by count l ≤ counts_by count (children_in x) → count_of (with_items x l) ≤ count_of x
put_count (Clip c) l h = omega arith
put_count (Gap g) l h = omega arith
put_count (Transition t) l h = omega arith
put_count (Stack s) l h = omega arith
put_count (Track t) l h = omega (arith, h, count-listed l, counts_of t.children)

track_count : (r : Rate) (a b : ℤ) (x y : ItemOf Listed) → window_track r a b x ≡ Some y
    → count_of y ≤ count_of x
track_count r a b x y e = of (window_of r a b (stripped (children_in x) a b)) refl e
  where
    of : (o : Option (List (ItemOf Listed))) → window_of r a b (stripped (children_in x) a b) ≡ o
        → option_map (with_items x) o ≡ Some y → count_of y ≤ count_of x
    of None f g = absurd (cc g)
    of (Some l) f g =
        let w = window_count r a b (stripped (children_in x) a b) l f in
        let s = strip_count (children_in x) a a in
        let p = put_count x l (omega (arith, w, s, strip_count (strip (children_in x) a a) b b)) in
        omega (arith, p, ap count_of (same_some (with_items x l) y g))

tracks_count : (r : Rate) (a b : ℤ) (l m : List (ItemOf Listed)) → window_tracks r a b l ≡ Some m
    → counts_by count m ≤ counts_by count l
tracks_count r a b [] m e =
    let none = ap (counts_by count) (same_some [] m e) in omega (arith, none)
tracks_count r a b (x ∷ l) m e =
    let f = first_is (window_track r a b x) (window_tracks r a b l) m e in
    omega (
      arith,
      track_count r a b x f.item f.first,
      tracks_count r a b l f.rest f.more,
      ap (counts_by count) f.all,
    )

pub windowed_count : (t r : Timeline) (a b : ℤ) → IsWindowed t a b r
    → count r.tracks.children ≤ count t.tracks.children
windowed_count t r a b w =
    omega (
      arith,
      count_bare r (record (with_roots w.tracks t) { global_start_time = Some w.start }) w.is,
      count-listed w.tracks,
      tracks_count (rate_of t) (from_start t a) (from_start t b) (roots t) w.tracks w.are,
      counts_of t.tracks.children,
    )

-- ---- a pile

flat_count : (l : List Timeline) → counts_by count (flat_map roots l) ≡ items_in l
flat_count [] = refl
flat_count (t ∷ l) =
    omega (
      arith,
      counts-append (roots t) (flat_map roots l),
      flat_count l,
      counts_of t.tracks.children,
    )

pub piled_count : (t r : Timeline) (more : List Timeline) → IsPiled t more r
    → count r.tracks.children ≡ items_in (t ∷ more)
piled_count t r more e =
    omega (
      arith,
      count_bare r (with_roots (roots t ++ flat_map roots more) t) e,
      count-listed (roots t ++ flat_map roots more),
      counts-append (roots t) (flat_map roots more),
      flat_count more,
      counts_of t.tracks.children,
    )

-- of some timelines and one more
pub items_more : (l : List Timeline) (t : Timeline)
    → items_in (l ++ t ∷ []) ≡ items_in l + count t.tracks.children
items_more [] t = omega arith
items_more (u ∷ l) t = omega (arith, items_more l t)

-- the sum so far, and the next one
pub items_next : (l : List Timeline) (i n m k : ℕ) (t d : Timeline) → i < length l
    → t ≡ get_or l i d → n ≡ capped_count (items_in (take i l))
    → m ≡ capped_count (count t.tracks.children) → k ≡ min (n + m) 18446744073709551615
    → k ≡ capped_count (items_in (take (i + 1) l))
items_next l i n m k t d h e p q s =
    omega (
      arith,
      p,
      q,
      s,
      ap items_in (take_more l i d h),
      items_more (take i l) (get_or l i d),
      ap (λ (z : Timeline). count z.tracks.children) e,
    )

-- The items that the longest stretches of a flat track become show what is given at each instant.
use mathlib.Core.Path.{fun_ext}
use Rattle.std.proofs.Common.{◌≡◌, refl, sym, subst, ap, ap₂, ◌∙◌, inl, ℕ, ◌+◌, ℤ, pos, ◌+ℤ◌, ◌-ℤ◌, ◌≤ℤ◌, ◌<ℤ◌, Bool, true, false, Option, Some, None, cond, List, [], ◌∷◌, map, arith}
use Rattle.std.specs.Prelude.{int_lt, int_le, option_map, option_and_then, is_some}
use Rattle.std.specs.Option.{option_or}
use Rattle.std.proofs.lemmas.Int.{ints, by_lt_z}
use Rattle.tick_time.specs.declared.rates.Rate.{Rate}
use Rattle.tick_time.specs.declared.spans.Span.{Span}
use Rattle.otio_model.specs.declared.compositions.ItemOf.{ItemOf}
use Rattle.otio_model.specs.declared.compositions.ItemOf.TheVariants.{Clip, Gap, Transition, Stack, Track}
use Rattle.otio_model.specs.declared.compositions.Listed.{Listed}
use Rattle.otio_model.specs.Lengths.{Range, range_of, clip_range, sum_of, both}
use Rattle.coord.specs.Looks.{Look, item_shows, total}
use Rattle.coord.specs.Speeds.{speed_of, media_at}
use Rattle.coord.specs.Sights.{View, Sight, sight, seen, looks, lengths_seen, overlap_of}
use Rattle.otio_model.specs.Lengths.{or_zero, trimmed_start}
use Rattle.edits.specs.Splices.{AreItems, IsItem}
use Rattle.edits.specs.Splices as L
use Rattle.edits.specs.Children.{Ranged, ticks, with_range, made, plain_gap, new_gap}
use Rattle.edits.specs.Cuts.{left_piece, right_piece, is_whole_at}
use Rattle.edits.specs.Steady.{IsBlind, IsRangedBefore}
use Rattle.coord.proofs.LookSteps.{item_past, item_hit}
use Rattle.edits_law.proofs.Pieces.{left_looks, right_looks}
use Rattle.coord.proofs.Members.{same_some}
use Rattle.edits_law.proofs.Made.{first_of_two, made_look}
use Rattle.flat.specs.Pieces.{Giver, gives, Piece, AreLongest, no_more, one_more, up_to, from_on, piece_item, piece_items, cuts_at, is_cut}
use Rattle.flat_law.proofs.Givers.{given_shows, IsSimple, AreSimple, IsGiven}
use Rattle.std.proofs.lemmas.Bool.{and_parts}

-- ---- a clip with another range

pub range_of_made : (r : Rate) (x : ItemOf Listed) (s n : ℤ) (z : ItemOf Listed) → made r (Ranged x s n) ≡ Some z → (w : Span) × (with_range w x ≡ z)
range_of_made r x s n z e = of _ e
  where
    of : (o : Option Span) → option_map (λ w. with_range w x) o ≡ Some z → (w : Span) × (with_range w x ≡ z)
    of None f = absurd (cc f)
    of (Some w) f = (w, same_some _ z f)

-- the same clip but for its range
pub record IsLike (x z : ItemOf Listed) : Type 0 where
  pub speed : speed_of z ≡ speed_of x
  pub clip : gives z ≡ true

like_range : (w : Span) (x : ItemOf Listed) → gives x ≡ true → IsLike x (with_range w x)
like_range w (Clip c) g = record { speed = refl; clip = g }
like_range w (Gap c) g = absurd (cc g)
like_range w (Transition c) g = absurd (cc g)
like_range w (Stack c) g = absurd (cc g)
like_range w (Track c) g = absurd (cc g)

like_made : (r : Rate) (x : ItemOf Listed) (s n : ℤ) (z : ItemOf Listed) → gives x ≡ true → made r (Ranged x s n) ≡ Some z → IsLike x z
like_made r x s n z g e = let m = range_of_made r x s n z e in subst (IsLike x) m.1 (like_range m.0 x g)

pub whole_like : (x z : ItemOf Listed) (t : ℤ) → IsLike x z → is_whole_at x t ≡ true → is_whole_at z t ≡ true
whole_like x z t k e = rw k.speed e

no_overlap : (x : ItemOf Listed) → gives x ≡ true → overlap_of x ≡ None
no_overlap (Clip c) g = refl
no_overlap (Gap c) g = refl
no_overlap (Transition c) g = absurd (cc g)
no_overlap (Stack c) g = refl
no_overlap (Track c) g = refl

pub simple_clip : (x : ItemOf Listed) → gives x ≡ true → IsSimple x
simple_clip (Clip c) g = record { alone = refl; thing = refl }
simple_clip (Gap c) g = absurd (cc g)
simple_clip (Transition c) g = absurd (cc g)
simple_clip (Stack c) g = absurd (cc g)
simple_clip (Track c) g = absurd (cc g)

ranged_before : (x : ItemOf Listed) (s n : ℤ) → gives x ≡ true → pos 0 <ℤ ticks x → IsRangedBefore (Ranged x s n)
ranged_before (Clip c) s n g h = of (clip_range c) c.source_range h
  where
    of : (o p : Option Span) → pos 0 <ℤ pos (or_zero (option_map (λ (r : Range). r.len) (option_or (option_map range_of p) (option_map range_of o)))) → is_some (option_or o p) ≡ true
    of (Some a) p k = refl
    of None (Some b) k = refl
    of None None k = absurd (omega (arith, ints, k))
ranged_before (Gap c) s n g h = tt
ranged_before (Transition c) s n g h = absurd (cc g)
ranged_before (Stack c) s n g h = tt
ranged_before (Track c) s n g h = tt

-- ---- both cuts of a clip

-- all of it is its left piece
all_left : (v : View) (x : ItemOf Listed) (t : ℤ) → overlap_of x ≡ None → ticks x ≡ t → seen v (sight x) ≡ L.left (seen v (sight x)) t
all_left v x t o e = λ i. record { length = e i; shows = (sight x).shows v; overlap = o i }

pub record IsFrom (v : View) (x : ItemOf Listed) (z : ItemOf Listed) (m : Look) : Type 0 where
  pub like : IsLike x z
  pub look : seen v (sight z) ≡ m

same_like : (x : ItemOf Listed) → gives x ≡ true → IsLike x x
same_like x g = record { speed = refl; clip = g }

pub left_from : (v : View) (r : Rate) (x z : ItemOf Listed) (t : ℤ) → IsBlind v → gives x ≡ true → pos 0 <ℤ ticks x → t ≤ℤ ticks x → up_to r t x ≡ Some z → IsFrom v x z (L.left (seen v (sight x)) t)
left_from v r x z t b g h k e = by (int_lt t (ticks x)) refl e
  where
    by : (c : Bool) → int_lt t (ticks x) ≡ c → cond c (made r (left_piece x t)) (Some x) ≡ Some z → IsFrom v x z (L.left (seen v (sight x)) t)
    by true f m = record {
      like = like_made r x (trimmed_start x) t z g m;
      look = made_look v r (left_piece x t) z m (ranged_before x (trimmed_start x) t g h) (inl b) ∙ left_looks v x t (no_overlap x g);
    }
    by false f m =
        let same : x ≡ z = same_some x z m in
        let all : ticks x ≡ t = grind (arith, ints) in
        subst (λ y. IsFrom v x y (L.left (seen v (sight x)) t)) same (record { like = same_like x g; look = all_left v x t (no_overlap x g) all })

all_right : (m : Look) (t : ℤ) → m.overlap ≡ None → t ≡ pos 0 → m ≡ L.right m t
all_right m t o e =
    let len : m.length ≡ m.length -ℤ t = omega (arith, ints, e) in
    λ i. record { length = len i; shows = fun_ext {f = m.shows} {g = λ u. m.shows (u +ℤ t)} (λ u. ap m.shows (omega (arith, ints, e))) i; overlap = o i }

right_from : (v : View) (r : Rate) (x y : ItemOf Listed) (t : ℤ) → IsBlind v → gives x ≡ true → pos 0 <ℤ ticks x → pos 0 ≤ℤ t → (pos 0 <ℤ t → is_whole_at x t ≡ true) → from_on r t x ≡ Some y
    → IsFrom v x y (L.right (seen v (sight x)) t)
right_from v r x y t b g h k whole e = by (int_lt (pos 0) t) refl e
  where
    by : (c : Bool) → int_lt (pos 0) t ≡ c → cond c (made r (right_piece x t)) (Some x) ≡ Some y → IsFrom v x y (L.right (seen v (sight x)) t)
    by true f m =
        let positive : pos 0 <ℤ t = grind (arith, ints) in
        record {
          like = like_made r x (media_at (trimmed_start x) (speed_of x) t) (ticks x -ℤ t) y g m;
          look = made_look v r (right_piece x t) y m (ranged_before x (media_at (trimmed_start x) (speed_of x) t) (ticks x -ℤ t) g h) (inl b) ∙ right_looks v x t (no_overlap x g) (whole positive);
        }
    by false f m =
        let same : x ≡ y = same_some x y m in
        let none : t ≡ pos 0 = grind (arith, ints) in
        subst (λ z. IsFrom v x z (L.right (seen v (sight x)) t)) same (record { like = same_like x g; look = all_right (seen v (sight x)) t (no_overlap x g) none })

-- ---- a piece

pub record IsSure (p : Piece) : Type 0 where
  pub long : p.from <ℤ p.to
  pub cut : (g : Giver) → p.of ≡ Some g → is_cut p g ≡ true
  pub from : (g : Giver) → p.of ≡ Some g → g.start ≤ℤ p.from
  pub to : (g : Giver) → p.of ≡ Some g → p.to ≤ℤ (g.start +ℤ ticks g.item)
  pub clip : (g : Giver) → p.of ≡ Some g → gives g.item ≡ true

abbrev pub piece_look : View → Piece → Look
piece_look v p = record { length = p.to -ℤ p.from; shows = λ u. given_shows v p.of (u +ℤ p.from); overlap = None }

pub whole_in : (x : ItemOf Listed) (t : ℤ) → cuts_at x t ≡ true → pos 0 <ℤ t → t <ℤ ticks x → is_whole_at x t ≡ true
whole_in x t e h k =
    let a : int_le t (pos 0) ≡ false = grind (arith, ints) in let b : int_le (ticks x) t ≡ false = grind (arith, ints) in
    rw (a, b) at e

and_then : (o : Option (ItemOf Listed)) (f : ItemOf Listed → Option (ItemOf Listed)) (y : ItemOf Listed) → option_and_then f o ≡ Some y → (z : ItemOf Listed) × (o ≡ Some z) × (f z ≡ Some y)
and_then None f y e = absurd (cc e)
and_then (Some z) f y e = (z, refl, e)

pub record Becomes (v : View) (p : Piece) (y : ItemOf Listed) : Type 0 where
  pub look : seen v (sight y) ≡ piece_look v p
  pub simple : IsSimple y

gap_simple : (r : Rate) (n : ℤ) (y : ItemOf Listed) → made r (new_gap n) ≡ Some y → IsSimple y
gap_simple r n y e = let m = range_of_made r plain_gap (pos 0) n y e in subst IsSimple m.1 (record { alone = refl; thing = refl })

pub becomes : (v : View) (r : Rate) (p : Piece) (y : ItemOf Listed) → IsBlind v → IsSure p → piece_item r p ≡ Some y → Becomes v p y
becomes v r p y b s e = by p.of refl e
  where
    by : (o : Option Giver) → p.of ≡ o
        → elim o [ None ↦ made r (new_gap (p.to -ℤ p.from)) | Some g ↦ option_and_then (from_on r (p.from -ℤ g.start)) (up_to r (p.to -ℤ g.start) g.item) ] ≡ Some y
        → Becomes v p y
    by None f m = record {
      look = made_look v r (new_gap (p.to -ℤ p.from)) y m tt (inl b) ∙ (λ i. record { length = p.to -ℤ p.from; shows = λ u. given_shows v (sym f i) (u +ℤ p.from); overlap = None });
      simple = gap_simple r (p.to -ℤ p.from) y m;
    }
    by (Some g) f m =
        let x = g.item in
        let is_clip = s.clip g f in
        let c = and_parts (cuts_at x (p.from -ℤ g.start)) (cuts_at x (p.to -ℤ g.start)) (s.cut g f) in
        let low = s.from g f in let high = s.to g f in let long = s.long in
        let two = and_then (up_to r (p.to -ℤ g.start) x) (from_on r (p.from -ℤ g.start)) y m in
        let z = two.0 in
        let l = left_from v r x z (p.to -ℤ g.start) b is_clip (omega (arith, ints)) (omega (arith, ints)) two.1 in
        let len : ticks z ≡ p.to -ℤ g.start = ap (λ (q : Look). q.length) l.look in
        let k = right_from v r z y (p.from -ℤ g.start) b l.like.clip (omega (arith, ints)) (omega (arith, ints))
        (λ h. whole_like x z (p.from -ℤ g.start) l.like (whole_in x (p.from -ℤ g.start) c.0 h (omega (arith, ints)))) two.2 in
        let both_cut : seen v (sight y) ≡ L.right (L.left (seen v (sight x)) (p.to -ℤ g.start)) (p.from -ℤ g.start) = k.look ∙ ap (λ q. L.right q (p.from -ℤ g.start)) l.look in
        let long_is : (p.to -ℤ g.start) -ℤ (p.from -ℤ g.start) ≡ p.to -ℤ p.from = omega (arith, ints) in
        record {
          look = both_cut ∙ (λ i. record {
            length = long_is i;
            shows = fun_ext {f = λ u. (sight x).shows v (u +ℤ (p.from -ℤ g.start))} {g = λ u. given_shows v p.of (u +ℤ p.from)}
                (λ u. (let same : u +ℤ (p.from -ℤ g.start) ≡ (u +ℤ p.from) -ℤ g.start = omega (arith, ints) in ap ((sight x).shows v) same) ∙ ap (λ o. given_shows v o (u +ℤ p.from)) (sym f)) i;
            overlap = None;
          });
          simple = simple_clip y k.like.clip;
        }

-- ---- all pieces

abbrev pub AreCut : List Piece → Type 0
AreCut [] = Unit {0}
AreCut (p ∷ l) = ((g : Giver) → p.of ≡ Some g → is_cut p g ≡ true) × AreCut l

-- how a list looks that was made of the stretches from an instant on
pub record Shows (v : View) (g : ℤ → Option Giver) (at end : ℤ) (l : List (ItemOf Listed)) : Type 0 where
  pub order : at ≤ℤ end
  pub simple : AreSimple l
  pub items : AreItems (looks v l)
  pub long : total (looks v l) ≡ (end -ℤ at)
  pub sum : (n : ℕ) × (sum_of (lengths_seen (map sight l)) ≡ Some n)
  pub shows : (w : ℤ) → at ≤ℤ w → w <ℤ end → item_shows (looks v l) (w -ℤ at) ≡ given_shows v (g w) w

none_left : (v : View) (g : ℤ → Option Giver) (at end : ℤ) → at ≡ end → Shows v g at end []
none_left v g at end e = record { order = omega (arith, ints, e); simple = tt; items = tt; long = omega (arith, ints, e); sum = (0, refl); shows = λ w h k. absurd (omega (arith, ints, e, h, k)) }

known_some : (o : Option ℕ) → pos 0 <ℤ pos (or_zero o) → (n : ℕ) × (o ≡ Some n)
known_some None h = absurd (omega (arith, ints, h))
known_some (Some n) h = (n, refl)

pub sum_more : (x : Sight) (l : List Sight) → ((n : ℕ) × (x.length ≡ Some n)) → ((n : ℕ) × (sum_of (lengths_seen l) ≡ Some n)) → (n : ℕ) × (sum_of (lengths_seen (x ∷ l)) ≡ Some n)
sum_more x l a b = (a.0 + b.0, ap₂ (both (λ m n. m + n)) a.1 b.1)

one_ahead : (v : View) (g : ℤ → Option Giver) (at to end : ℤ) (p : Option Giver) (y : ItemOf Listed) (l : List (ItemOf Listed)) → at <ℤ to → ((w : ℤ) → at ≤ℤ w → w <ℤ to → g w ≡ p)
    → Becomes v (record { from = at; to = to; of = p }) y → Shows v g to end l → Shows v g at end (y ∷ l)
one_ahead v g at to end p y l h same b s =
    let o = s.order in let long = s.long in
    let len : ticks y ≡ to -ℤ at = ap (λ (q : Look). q.length) b.look in
    record {
      order = omega (arith, ints);
      simple = (b.simple, s.simple);
      items = (record { whole = omega (arith, ints); item = ap (λ (q : Look). q.overlap) b.look }, s.items);
      long = omega (arith, ints);
      sum = sum_more (sight y) (map sight l) (known_some (sight y).length (omega (arith, ints))) s.sum;
      shows = λ w j k. by_lt_z w to
          (λ u. item_hit (seen v (sight y)) (looks v l) (w -ℤ at) (omega (arith, ints)) (omega (arith, ints))
          ∙ ap (λ (q : Look). q.shows (w -ℤ at)) b.look
          ∙ ap (given_shows v p) (let e : (w -ℤ at) +ℤ at ≡ w = omega (arith, ints) in e)
          ∙ ap (λ q. given_shows v q w) (sym (same w j u)))
          (λ u. item_past (seen v (sight y)) (looks v l) (w -ℤ at) (omega (arith, ints))
          ∙ ap (item_shows (looks v l)) (let e : (w -ℤ at) -ℤ ticks y ≡ w -ℤ to = omega (arith, ints) in e)
          ∙ s.shows w u k);
    }

pub sure : (g : ℤ → Option Giver) (at to : ℤ) (p : Option Giver) → ((w : ℤ) (q : Giver) → g w ≡ Some q → IsGiven q w) → at <ℤ to → ((w : ℤ) → at ≤ℤ w → w <ℤ to → g w ≡ p)
    → ((q : Giver) → p ≡ Some q → is_cut (record { from = at; to = to; of = p }) q ≡ true) → IsSure (record { from = at; to = to; of = p })
sure g at to p given h same cut = record {
  long = h;
  cut = cut;
  from = λ q e. let a = given at q (same at (omega (arith, ints)) h ∙ e) in a.from;
  to = λ q e. let a = given (to -ℤ pos 1) q (same (to -ℤ pos 1) (omega (arith, ints)) (omega (arith, ints)) ∙ e) in let b = a.to in omega (arith, ints);
  clip = λ q e. let a = given at q (same at (omega (arith, ints)) h ∙ e) in a.clip;
}

pub stretches : (v : View) (r : Rate) (g : ℤ → Option Giver) (end at : ℤ) (l : List Piece) (m : List (ItemOf Listed)) → IsBlind v → ((w : ℤ) (q : Giver) → g w ≡ Some q → IsGiven q w)
    → AreLongest g end at l → AreCut l → piece_items r l ≡ Some m → Shows v g at end m
stretches v r g end _ _ m b given (no_more at l e f) cut is =
    let none : [] ≡ m = same_some [] m (sym (ap (piece_items r) f) ∙ is) in
    subst (Shows v g at end) none (none_left v g at end e)
stretches v r g end _ _ m b given (one_more at to p rest l h k same other more f) cut is =
    let c : AreCut (record { from = at; to = to; of = p } ∷ rest) = subst AreCut f cut in
    let two = first_of_two (piece_item r (record { from = at; to = to; of = p })) (piece_items r rest) m (sym (ap (piece_items r) f) ∙ is) in
    let this = becomes v r (record { from = at; to = to; of = p }) two.0 b (sure g at to p given h same c.0) two.2 in
    let later = stretches v r g end to rest two.1 b given more c.1 two.3 in
    subst (Shows v g at end) (sym two.4) (one_ahead v g at to end p two.0 two.1 h same this later)

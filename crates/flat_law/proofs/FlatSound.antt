-- A flattened sound timeline is there where its stretches are, and is sound.
use Rattle.std.proofs.Common.{◌≡◌, refl, sym, subst, ap, ap₂, ◌∙◌, ℕ, suc, ℤ, pos, ◌+ℤ◌, ◌-ℤ◌, ◌≤ℤ◌, ◌<ℤ◌, ◌&&◌, Bool, true, false, Option, Some, None, cond, List, [], ◌∷◌, ◌++◌, map, arith}
use Rattle.std.specs.Prelude.{int_lt, option_and_then, unsigned_abs, filter, not, codes}
use Rattle.std.specs.Option.{option_or}
use Rattle.std.proofs.lemmas.Int.{ints}
use Rattle.tick_time.specs.declared.rates.Rate.{Rate}
use Rattle.tick_time.specs.declared.spans.Span.{Span}
use Rattle.limits.specs.Limits.{most_ticks}
use Rattle.otio_model.specs.declared.compositions.ItemOf.{ItemOf}
use Rattle.otio_model.specs.declared.compositions.ItemOf.TheVariants.{Clip, Gap, Transition, Stack, Track}
use Rattle.otio_model.specs.declared.compositions.TrackOf.{TrackOf}
use Rattle.otio_model.specs.declared.compositions.Listed.{Listed}
use Rattle.otio_model.specs.declared.timelines.Timeline.{Timeline}
use Rattle.otio_model.specs.Trees.{listed}
use Rattle.coord.specs.Looks.{Look, total}
use Rattle.otio_model.specs.Overlaps.{within}
use Rattle.coord.specs.Sights.{sight, looks}
use Rattle.coord.specs.Soundness.{IsFaultless, fault_of}
use Rattle.otio_model.specs.Trees.{is_transition}
use Rattle.coord.specs.Soundness.{IsFaultlessItem}
use Rattle.coord.proofs.SpareLemmas.{faultless_bare}
use Rattle.edits.specs.Children.{ticks, with_range, made, plain_gap, new_gap, with_first}
use Rattle.edits.specs.Cuts.{is_whole_at}
use Rattle.edits.specs.After.{rate_of}
use Rattle.edits_law.proofs.Splice.{cases}
use Rattle.flat.specs.Roots.{is_of, is_layer, items_in, roots, with_roots}
use Rattle.flat.specs.Pieces.{Giver, gives, holder, giver, longest, Piece, AreLongest, no_more, one_more, up_to, from_on, piece_item, piece_items, cuts_at}
use Rattle.flat.specs.Blocked.{Blocks, IsFree}
use Rattle.flat.specs.Flattened.{flat_track, has_kind, in_place, put_flat, AreFlat, IsFlattened, unchanged, changed}
use Rattle.flat_law.proofs.Givers.{IsGiven, giver_given, IsBare}
use Rattle.std.proofs.lemmas.Bool.{and_parts}
use Rattle.coord.proofs.Members.{same_some}
use Rattle.flat_law.proofs.Stretches.{IsSure, AreCut, sure, left_from, whole_in, whole_like, stretches}
use Rattle.flat_law.proofs.Flat.{all_cut}
use Rattle.flat_law.proofs.Exists.{sound_one, fault_none, can_make, range_yes}
use Rattle.flat_law.proofs.WindowKept.{AllFaultless, own_sound, ticks_is, piece_left, piece_right, blind}
use Rattle.flat_law.proofs.WindowSound.{inside_sound, root_sound, listed_sound, track_sound}

-- ---- what gives an instant is sound

holder_sound : (k i : ℕ) (s : ℤ) (l : List (ItemOf Listed)) (w : ℤ) (g : Giver) → AllFaultless l → holder k i s l w ≡ Some g → IsFaultlessItem g.item
holder_sound k i s [] w g a e = absurd (cc e)
holder_sound k i s (x ∷ l) w g a e = by (λ f. holder_sound k (suc i) (s +ℤ ticks x) l (w -ℤ ticks x) g a.1 f) (within (pos 0) (ticks x) w) e
  where
    here : (c : Bool) → cond c (Some (record { track = k; child = i; start = s; item = x })) None ≡ Some g → IsFaultlessItem g.item
    here false m = absurd (cc m)
    here true m = let is : Path Giver (record { track = k; child = i; start = s; item = x }) g = cc m in subst (λ (q : Giver). IsFaultlessItem q.item) is a.0

    by : (holder k (suc i) (s +ℤ ticks x) l (w -ℤ ticks x) ≡ Some g → IsFaultlessItem g.item) → (c : Bool)
        → cond c (cond (gives x) (Some (record { track = k; child = i; start = s; item = x })) None) (holder k (suc i) (s +ℤ ticks x) l (w -ℤ ticks x)) ≡ Some g → IsFaultlessItem g.item
    by rest true m = here (gives x) m
    by rest false m = rest m

giver_sound : (k : ℕ) (kind : List ℕ) (l : List (ItemOf Listed)) (w : ℤ) (g : Giver) → AllFaultless l → giver k kind l w ≡ Some g → IsFaultlessItem g.item
giver_sound k kind [] w g a e = absurd (cc e)
giver_sound k kind (x ∷ l) w g a e = by (λ f. giver_sound (suc k) kind l w g a.1 f) (giver (suc k) kind l w) refl e
  where
    here : (c : Bool) → cond c (holder k 0 (pos 0) (items_in x) w) None ≡ Some g → IsFaultlessItem g.item
    here true m = holder_sound k 0 (pos 0) (items_in x) w g (inside_sound x a.0) m
    here false m = absurd (cc m)

    by : (giver (suc k) kind l w ≡ Some g → IsFaultlessItem g.item) → (o : Option Giver) → giver (suc k) kind l w ≡ o
        → option_or o (cond (is_layer kind x) (holder k 0 (pos 0) (items_in x) w) None) ≡ Some g → IsFaultlessItem g.item
    by rest None f m = here (is_layer kind x) m
    by rest (Some q) f m = rest (f ∙ m)

-- ---- a piece

pub record PieceMade (r : Rate) (p : Piece) : Type 0 where
  pub item : ItemOf Listed
  pub made : piece_item r p ≡ Some item
  pub sound : IsFaultlessItem item

pub gap_made : (r : Rate) (n : ℤ) → pos 0 ≤ℤ n → n ≤ℤ pos most_ticks → (y : ItemOf Listed) × (made r (new_gap n) ≡ Some y) × IsFaultlessItem y
gap_made r n h k =
    let m = can_make r plain_gap (pos 0) n (range_yes (pos 0) (omega (arith, ints)) (omega (arith, ints))) (range_yes n (omega (arith, ints)) (omega (arith, ints))) h in
    (with_range m.span plain_gap, m.made, whole m.span m.start m.len)
  where
    size : (w : Span) → w.len.ticks ≡ n → pos (unsigned_abs w.len.ticks) ≡ n
    size w e = rw e (omega (arith, ints))

    own : (w : Span) → w.start.ticks ≡ pos 0 → w.len.ticks ≡ n → fault_of (with_range w plain_gap) ≡ None
    own w a b = let s = size w b in fault_none (with_range w plain_gap) (record {
      ticks = unsigned_abs w.len.ticks;
      length = refl;
      speed = refl;
      short = omega (arith, ints, s);
      room = refl;
      low = omega (arith, ints, a, s);
      high = omega (arith, ints, a, s);
    })

    whole : (w : Span) → w.start.ticks ≡ pos 0 → w.len.ticks ≡ n → IsFaultlessItem (with_range w plain_gap)
    whole w a b [] y e = subst (λ z. fault_of z ≡ None) (same_some (with_range w plain_gap) y e) (own w a b)
    whole w a b (i ∷ p) y e = absurd (cc e)

pub record IsUpTo (r : Rate) (x : ItemOf Listed) (t : ℤ) : Type 0 where
  pub item : ItemOf Listed
  pub made : up_to r t x ≡ Some item
  pub sound : IsFaultlessItem item

up_made : (r : Rate) (x : ItemOf Listed) (t : ℤ) → IsFaultlessItem x → pos 0 <ℤ t → IsUpTo r x t
up_made r x t s h = cases (int_lt t (ticks x))
    (λ e. let p = piece_left r x t s h (lt_is t (ticks x) e) in record { item = p.0; made = rw e p.1; sound = p.2 })
    (λ e. record { item = x; made = rw e refl; sound = s })
  where
    lt_is : (a b : ℤ) → int_lt a b ≡ true → a <ℤ b
    lt_is a b f = grind (arith, ints)

from_made : (r : Rate) (x : ItemOf Listed) (t : ℤ) → IsFaultlessItem x → t <ℤ ticks x → (pos 0 <ℤ t → is_whole_at x t ≡ true) → (y : ItemOf Listed) × (from_on r t x ≡ Some y) × IsFaultlessItem y
from_made r x t s h w = cases (int_lt (pos 0) t)
    (λ e. let k = lt_is (pos 0) t e in let p = piece_right r x t s k h (w k) in (p.0, rw e p.1, p.2))
    (λ e. (x, rw e refl, s))
  where
    lt_is : (a b : ℤ) → int_lt a b ≡ true → a <ℤ b
    lt_is a b f = grind (arith, ints)

pub piece_made : (r : Rate) (from to : ℤ) (o : Option Giver) → IsSure (record { from = from; to = to; of = o }) → ((g : Giver) → o ≡ Some g → IsFaultlessItem g.item) → (to -ℤ from) ≤ℤ pos most_ticks → PieceMade r (record { from = from; to = to; of = o })
piece_made r from to None s f h = let long = s.long in let m = gap_made r (to -ℤ from) (omega (arith, ints)) h in record { item = m.0; made = m.1; sound = m.2 }
piece_made r from to (Some g) s f h =
    let x = g.item in
    let long = s.long in let low = s.from g refl in let high = s.to g refl in
    let c = and_parts (cuts_at x (from -ℤ g.start)) (cuts_at x (to -ℤ g.start)) (s.cut g refl) in
    let a = up_made r x (to -ℤ g.start) (f g refl) (omega (arith, ints)) in
    let l = left_from blind r x a.item (to -ℤ g.start) (λ p q. refl) (s.clip g refl) (omega (arith, ints)) (omega (arith, ints)) a.made in
    let len : ticks a.item ≡ to -ℤ g.start = ap (λ (q : Look). q.length) l.look in
    let b = from_made r a.item (from -ℤ g.start) a.sound (omega (arith, ints, len)) (λ k. whole_like x a.item (from -ℤ g.start) l.like (whole_in x (from -ℤ g.start) c.0 k (omega (arith, ints)))) in
    record { item = b.0; made = ap (option_and_then (from_on r (from -ℤ g.start))) a.made ∙ b.1; sound = b.2 }

pub record PiecesMade (r : Rate) (l : List Piece) : Type 0 where
  pub items : List (ItemOf Listed)
  pub made : piece_items r l ≡ Some items
  pub sound : AllFaultless items

ordered : (g : ℤ → Option Giver) (end at : ℤ) (l : List Piece) → AreLongest g end at l → at ≤ℤ end
ordered g end _ _ (no_more at l e f) = omega (arith, ints, e)
ordered g end _ _ (one_more at to p rest l h k same other more f) = omega (arith, ints, h, k)

pub pieces_made : (r : Rate) (g : ℤ → Option Giver) (end at : ℤ) (l : List Piece) → ((w : ℤ) (q : Giver) → g w ≡ Some q → IsGiven q w) → ((w : ℤ) (q : Giver) → g w ≡ Some q → IsFaultlessItem q.item)
    → pos 0 ≤ℤ at → end ≤ℤ pos most_ticks → AreLongest g end at l → AreCut l → PiecesMade r l
pieces_made r g end _ _ given sound n m (no_more at l e f) cut = subst (PiecesMade r) (sym f) (record { items = []; made = refl; sound = tt })
pieces_made r g end _ _ given sound n m (one_more at to p rest l h k same other more f) cut =
    let c : AreCut (record { from = at; to = to; of = p } ∷ rest) = subst AreCut f cut in
    let this = piece_made r at to p (sure g at to p given h same c.0) (λ q e. sound at q (same at (omega (arith, ints)) h ∙ e)) (omega (arith, ints)) in
    let later = pieces_made r g end to rest given sound (omega (arith, ints)) m more c.1 in
    subst (PiecesMade r) (sym f) (record { items = this.item ∷ later.items; made = ap₂ with_first this.made later.made; sound = (this.sound, later.sound) })

-- ---- the timeline

longest_most : (kind : List ℕ) (l : List (ItemOf Listed)) → AllFaultless l → longest kind l ≤ℤ pos most_ticks
longest_most kind [] a = omega (arith, ints)
longest_most kind (x ∷ l) a = of (is_layer kind x) refl (longest_most kind l a.1)
  where
    none : (y : ItemOf Listed) → is_layer kind y ≡ true → is_transition y ≡ false
    none (Clip c) e = refl
    none (Gap c) e = refl
    none (Transition c) e = absurd (cc e)
    none (Stack c) e = refl
    none (Track c) e = refl

    long : is_layer kind x ≡ true → ticks x ≤ℤ pos most_ticks
    long e = let one = sound_one x (none x e) (own_sound x a.0) in let n = ticks_is x one.ticks one.length in let s = one.short in omega (arith, ints, n, s)

    pick : (c : Bool) → ticks x ≤ℤ pos most_ticks → longest kind l ≤ℤ pos most_ticks → cond c (ticks x) (longest kind l) ≤ℤ pos most_ticks
    pick true h k = h
    pick false h k = k

    of : (b : Bool) → is_layer kind x ≡ b → longest kind l ≤ℤ pos most_ticks → cond (b && int_lt (longest kind l) (ticks x)) (ticks x) (longest kind l) ≤ℤ pos most_ticks
    of true e h = pick (int_lt (longest kind l) (ticks x)) (long e) h
    of false e h = h

made_pieces : (t : Timeline) (kind : List ℕ) (l : List Piece) → IsFaultless t → IsFree (Blocks kind (roots t)) → AreLongest (giver 0 kind (roots t)) (longest kind (roots t)) (pos 0) l → PiecesMade (rate_of t) l
made_pieces t kind l s f a =
    pieces_made (rate_of t) (giver 0 kind (roots t)) (longest kind (roots t)) (pos 0) l (λ w q e. giver_given 0 kind (roots t) w q e) (λ w q e. giver_sound 0 kind (roots t) w q (root_sound t s) e)
    (omega (arith, ints)) (longest_most kind (roots t) (root_sound t s)) a (all_cut kind (roots t) l a f)

-- the flattened timeline is there
pub flat_there : (t : Timeline) (kind : List ℕ) (keep : Bool) (l : List Piece) → IsFaultless t → IsFree (Blocks kind (roots t)) → has_kind kind (roots t) ≡ true
    → AreLongest (giver 0 kind (roots t)) (longest kind (roots t)) (pos 0) l → (r : Timeline) × IsFlattened t kind keep r
flat_there t kind keep l s f h a =
    let m = made_pieces t kind l s f a in
    (with_roots (put_flat keep kind (flat_track kind m.items) (roots t)) t, changed m.items h (record { pieces = l; are = a; made = m.made }) refl)

sound_append : (l : List (ItemOf Listed)) (x : ItemOf Listed) → AllFaultless l → IsFaultlessItem x → AllFaultless (l ++ x ∷ [])
sound_append [] x a s = (s, tt)
sound_append (y ∷ l) x a s = (a.0, sound_append l x a.1 s)

sound_filter : (test : ItemOf Listed → Bool) (l : List (ItemOf Listed)) → AllFaultless l → AllFaultless (filter test l)
sound_filter test [] a = tt
sound_filter test (y ∷ l) a = cases (test y) (λ e. rw e (a.0, sound_filter test l a.1)) (λ e. rw e (sound_filter test l a.1))

sound_in_place : (kind : List ℕ) (x : ItemOf Listed) (l : List (ItemOf Listed)) → AllFaultless l → IsFaultlessItem x → AllFaultless (in_place kind x l)
sound_in_place kind x [] a s = tt
sound_in_place kind x (y ∷ l) a s = cases (is_of kind y) (λ e. rw e (s, sound_filter (λ z. not (is_of kind z)) l a.1)) (λ e. rw e (a.0, sound_in_place kind x l a.1 s))

sound_put : (keep : Bool) (kind : List ℕ) (x : ItemOf Listed) (l : List (ItemOf Listed)) → AllFaultless l → IsFaultlessItem x → AllFaultless (put_flat keep kind x l)
sound_put true kind x l a s = sound_append l x a s
sound_put false kind x l a s = sound_in_place kind x l a s

flat_item_sound : (t : Timeline) (kind : List ℕ) (items : List (ItemOf Listed)) → IsFaultless t → IsFree (Blocks kind (roots t)) → AreFlat t kind items → IsFaultlessItem (flat_track kind items)
flat_item_sound t kind items s f a =
    let m = made_pieces t kind a.pieces s f a.are in
    let same : m.items ≡ items = same_some m.items items (sym m.made ∙ a.made) in
    let sh = stretches blind (rate_of t) (giver 0 kind (roots t)) (longest kind (roots t)) (pos 0) a.pieces items (λ p q. refl) (λ w q e. giver_given 0 kind (roots t) w q e) a.are (all_cut kind (roots t) a.pieces a.are f) a.made in
    let n = sh.sum in
    let long = sh.long in
    let made_total : total (looks blind items) ≡ pos n.0 = ap total (sym (Rattle.flat_law.proofs.Givers.map_looks blind items)) ∙ Rattle.flat_law.proofs.Givers.sum_total blind (map sight items) n.0 n.1 in
    let most = longest_most kind (roots t) (root_sound t s) in
    let none : TrackOf Listed = record { metadata = []; name = codes "Flattened"; source_range = None; effects = []; markers = []; enabled = true; children = listed []; kind = kind; rest = [] } in
    track_sound none items n.0 (record { range = refl; effects = refl }) (subst AllFaultless same m.sound) n.1 (omega (arith, ints, long, made_total, most))

pub flat_sound : (t r : Timeline) (kind : List ℕ) (keep : Bool) → IsFaultless t → IsFree (Blocks kind (roots t)) → IsFlattened t kind keep r → IsFaultless r
flat_sound t r kind keep s f (unchanged e g) = faultless_bare t r (sym g) s
flat_sound t r kind keep s f (changed items e a g) =
    faultless_bare (with_roots (put_flat keep kind (flat_track kind items) (roots t)) t) r (sym g) (record {
      start = s.start;
      items = listed_sound (put_flat keep kind (flat_track kind items) (roots t)) (sound_put keep kind (flat_track kind items) (roots t) (root_sound t s) (flat_item_sound t kind items s f a));
    })
